-- Hashes of texts, and places by their hashes. Hashes that leave one remainder share a bucket, and the places of a bucket are chained in order.
use Rattle.std.specs.Prelude.{◌≡◌, ℕ, suc, ◌*◌, ◌%◌, ◌^◌, ◌<◌, ◌≤◌, Bool, true, false, List, length, fold, Option, IfSome, bit_xor, slice_index_or}
use Rattle.std.specs.Option.{unwrap_or}

-- the hash of a text behind one that has this hash
unfoldable pub hash_on : ℕ → List ℕ → ℕ
hash_on front text = fold (λ hash byte. (bit_xor hash byte * 16777619) % 2 ^ 32) front text

abbrev pub empty_hash : ℕ
empty_hash = 2166136261

-- the hash of a text
abbrev pub hash_of : List ℕ → ℕ
hash_of text = hash_on empty_hash text

-- ## Chains

abbrev pub hash_at : List ℕ → ℕ → ℕ
hash_at hashes place = slice_index_or hashes place 0

-- among so many
abbrev pub bucket_at : ℕ → List ℕ → ℕ → ℕ
bucket_at buckets hashes place = hash_at hashes place % buckets

-- the first place of a bucket from there on, or the number of all places
pub record IsNext (buckets : ℕ) (hashes : List ℕ) (bucket from place : ℕ) : Type 0 where
  pub further : from ≤ place
  pub inside : place ≤ length hashes
  pub here : place < length hashes → bucket_at buckets hashes place ≡ bucket
  pub none : (j : ℕ) → from ≤ j → j < place → bucket_at buckets hashes j ≡ bucket → ⊥

pub record AreChained (hashes first next : List ℕ) : Type 0 where
  pub some : 0 < length first
  pub count : length next ≡ length hashes
  pub heads : (bucket : ℕ) → bucket < length first → IsNext (length first) hashes bucket 0 (slice_index_or first bucket 0)
  pub links : (place : ℕ) → place < length hashes → IsNext (length first) hashes (bucket_at (length first) hashes place) (suc place) (slice_index_or next place 0)

-- ## Look-ups

-- no place of the hash passes, up to this one
abbrev pub NonePasses : List ℕ → ℕ → (ℕ → Bool → Type 0) → ℕ → Type 0
NonePasses hashes hash Passes until = (j : ℕ) → j < until → hash_at hashes j ≡ hash → Passes j false

-- the first place of the hash that passes: what is found passes, and no place of the hash does before it, or none at all
pub record IsFound (hashes : List ℕ) (hash : ℕ) (Passes : ℕ → Bool → Type 0) (found : Option ℕ) : Type 0 where
  pub inside : IfSome found (λ k. k < length hashes)
  pub passes : IfSome found (λ k. Passes k true)
  pub before : NonePasses hashes hash Passes (unwrap_or found (length hashes))
