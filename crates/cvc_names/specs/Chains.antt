-- Hashes of texts, and places by their hashes. Places whose hashes have one bucket are chained, each to the next older one. A link is a place and one, or
-- 0 where there is none.
use Rattle.std.specs.Prelude.{◌≡◌, ℕ, ◌-◌, ◌^◌, ◌<◌, ◌≤◌, Bool, true, false, List, length, Option, IfNone, IfSome, bit_and, slice_index_or}
use Rattle.std.specs.Hash.FoldHasher.{finish, initial, write}

-- the hash of a text
unfoldable pub text_hash : List ℕ → ℕ
text_hash text = bit_and (finish (write initial text)) 0xffff_ffff

-- the bucket of a hash among so many
unfoldable pub bucket_of : ℕ → ℕ → ℕ
bucket_of buckets hash = bit_and hash (buckets - 1)

-- ## Chains

abbrev pub hash_at : List ℕ → ℕ → ℕ
hash_at hashes place = slice_index_or hashes place 0

abbrev pub bucket_at : ℕ → List ℕ → ℕ → ℕ
bucket_at buckets hashes place = bucket_of buckets (hash_at hashes place)

-- the link to the newest place of a bucket, of so many places
pub record IsNewest (buckets : ℕ) (hashes : List ℕ) (bucket count link : ℕ) : Type 0 where
  pub inside : link ≤ count
  pub here : 0 < link → bucket_at buckets hashes (link - 1) ≡ bucket
  pub newest : (j : ℕ) → link ≤ j → j < count → bucket_at buckets hashes j ≡ bucket → ⊥

-- so many places are chained: each bucket has its newest one, and each place the newest one of its bucket before it
pub record AreLinked (hashes heads links : List ℕ) (count : ℕ) : Type 0 where
  pub few : length hashes < 2 ^ 32
  pub size : length links ≡ length hashes
  pub buckets : (bucket : ℕ) → bucket < length heads → IsNewest (length heads) hashes bucket count (slice_index_or heads bucket 0)
  pub places : (place : ℕ) → place < count → IsNewest (length heads) hashes (bucket_at (length heads) hashes place) place (slice_index_or links place 0)

-- all places are chained, and there are as many buckets at least
pub record AreChained (hashes heads links : List ℕ) : Type 0 where
  pub room : length hashes ≤ length heads
  pub linked : AreLinked hashes heads links (length hashes)

-- ## Look-ups

-- a place of the hash that passes, or none where no place of the hash does
pub record IsFound (hashes : List ℕ) (hash : ℕ) (Passes : ℕ → Bool → Type 0) (found : Option ℕ) : Type 0 where
  pub inside : IfSome found (λ k. k < length hashes)
  pub hashed : IfSome found (λ k. hash_at hashes k ≡ hash)
  pub passes : IfSome found (λ k. Passes k true)
  pub none : IfNone found ((j : ℕ) → j < length hashes → hash_at hashes j ≡ hash → Passes j false)
