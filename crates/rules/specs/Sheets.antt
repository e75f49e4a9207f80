-- What a sheet is, in the paper's words: fields, records, a header, tasks. Document 02, 2/14: RFC 4180, by the decisions of docs/DECISIONS.md.
use Rattle.std.specs.Prelude.{◌≡◌, ℕ, suc, ◌<◌, eqb, length, get_or, if◌then◌else◌}
use mathlib.Core.List.{List, [], ◌∷◌, ◌++◌, Memᴰ}
use Rattle.rules.specs.Text.{bytes, digits}

-- each quote of a content doubled
unfoldable pub doubled : List ℕ → List ℕ
doubled [] = []
doubled (b ∷ c) = if eqb b 34 then 34 ∷ 34 ∷ doubled c else b ∷ doubled c

-- a field, by its content and the bytes that it takes: plain, with no quote, comma, CR or LF in it; or any content, between quotes and with its own doubled
pub data Stands : List ℕ → List ℕ → Type 0 where
  plain : {c : List ℕ} → ((b : ℕ) → Memᴰ b c → (b ≡ 34 → ⊥) × (b ≡ 44 → ⊥) × (b ≡ 13 → ⊥) × (b ≡ 10 → ⊥)) → Stands c c
  quoted : {c : List ℕ} → Stands c (34 ∷ (doubled c ++ (34 ∷ [])))

-- fields with a comma between
pub data Commas : List (List ℕ) → List ℕ → Type 0 where
  one : {c f : List ℕ} → Stands c f → Commas (c ∷ []) f
  more : {c f r : List ℕ} {cs : List (List ℕ)} → Stands c f → Commas cs r → Commas (c ∷ cs) (f ++ (44 ∷ r))

-- a record's fields at the start of some bytes, and the bytes after it: it ends in CR LF, in a bare LF, or at the end of the sheet
pub data Begins : List ℕ → List (List ℕ) → List ℕ → Type 0 where
  crlf : {r after : List ℕ} {cs : List (List ℕ)} → Commas cs r → Begins (r ++ (13 ∷ 10 ∷ after)) cs after
  lf : {r after : List ℕ} {cs : List (List ℕ)} → Commas cs r → Begins (r ++ (10 ∷ after)) cs after
  end : {r : List ℕ} {cs : List (List ℕ)} → Commas cs r → Begins r cs []

-- a name is one column's, and no other's
pub record Once (name : List ℕ) (hs : List (List ℕ)) : Type 0 where
  pub place : ℕ
  pub there : place < length hs
  pub has : get_or hs place [] ≡ name
  pub alone : (j : ℕ) → j < length hs → get_or hs j [] ≡ name → j ≡ place

-- the header, which is the first record, names the four columns once each
pub record Header (s : List ℕ) (hs : List (List ℕ)) (after : List ℕ) : Type 0 where
  pub begins : Begins s hs after
  pub execution : Once (bytes "execution") hs
  pub deadline : Once (bytes "deadline") hs
  pub period : Once (bytes "period") hs
  pub release : Once (bytes "release") hs

-- a number of at most five digits stands in the column of a name
abbrev pub Under : List (List ℕ) → List (List ℕ) → List ℕ → ℕ → Type 0
Under hs cs name v = (v < 100000) × ((i : ℕ) → i < length hs → get_or hs i [] ≡ name → get_or cs i [] ≡ digits v)

-- a task's record, its words, and the bytes after it: as many fields as the header, and a number under each of the four names
pub data Kernel (hs : List (List ℕ)) (s : List ℕ) : List ℕ → List ℕ → Type 0 where
  kernel : {cs : List (List ℕ)} {after : List ℕ} {c d t r : ℕ} → Begins s cs after → length cs ≡ length hs
      → Under hs cs (bytes "execution") c → Under hs cs (bytes "deadline") d → Under hs cs (bytes "period") t → Under hs cs (bytes "release") r
      → Kernel hs s (c ∷ d ∷ t ∷ r ∷ []) after

-- the records of tasks up to the end of the sheet, and their words
pub data Tasks (hs : List (List ℕ)) : List ℕ → List ℕ → Type 0 where
  none : Tasks hs [] []
  more : {s after ws vs : List ℕ} → (s ≡ [] → ⊥) → Kernel hs s ws after → Tasks hs after vs → Tasks hs s (ws ++ vs)

-- of the records from record l on the first that is not as due, or is record 66, which is a 65th after the header
pub data NotDue (hs : List (List ℕ)) : ℕ → List ℕ → ℕ → Type 0 where
  this : {l : ℕ} {s : List ℕ} → (s ≡ [] → ⊥) → ((ws after : List ℕ) → Kernel hs s ws after → ⊥) → NotDue hs l s l
  too_many : {s : List ℕ} → (s ≡ [] → ⊥) → NotDue hs 66 s 66
  later : {l k : ℕ} {s ws after : List ℕ} → l < 66 → (s ≡ [] → ⊥) → Kernel hs s ws after → NotDue hs (suc l) after k → NotDue hs l s k
