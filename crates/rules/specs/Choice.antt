-- A search by a test.
use Rattle.std.specs.Prelude.{ℕ, zero, suc, Bool, if◌then◌else◌, Option, Some, None}

-- the least of the n numbers from k on that passes the test
unfoldable pub least : (ℕ → Bool) → ℕ → ℕ → Option ℕ
least p zero k = None
least p (suc n) k = let later = least p n (suc k) in if p k then Some k else later
