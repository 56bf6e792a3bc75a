-- How chains of places are followed.
use Rattle.std.proofs.Common.{◌≡◌, ℕ, ◌-◌, ◌<◌, ◌≤◌, Bool, false, List, length}
use Rattle.cvc_names.specs.Chains.{bucket_at, bucket_of, hash_at}

-- a link to a place of the hash's bucket, from which on no place of the hash passes
pub record IsReached (buckets : ℕ) (hashes : List ℕ) (hash : ℕ) (Passes : ℕ → Bool → Type 0) (link : ℕ) : Type 0 where
  pub inside : link ≤ length hashes
  pub here : 0 < link → bucket_at buckets hashes (link - 1) ≡ bucket_of buckets hash
  pub newer : (j : ℕ) → link ≤ j → j < length hashes → hash_at hashes j ≡ hash → Passes j false
