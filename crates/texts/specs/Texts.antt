-- The texts of sets drawn one after another, on slices: how long one can be, and where they stand.
use Rattle.std.specs.Prelude.{◌≡◌, ℕ, List, ◌++◌, length, drop}
use Rattle.rules.specs.Text.{write_set}
use Rattle.rules.specs.Generator.{words_drawn, state_after_set, state_after_sets, generated}

-- the most bytes of a set's text: 8 for the line of the count, and 8 for each of at most 32 words
abbrev pub text_most : ℕ
text_most = 264

-- a text stands at the start of the lent bytes, which stay the same beyond it; the answer is its length, and the state is this one
pub record Puts (text : List ℕ) (state : ℕ) (out : List ℕ) (size after : ℕ) (exit : List ℕ) : Type 0 where
  pub says : size ≡ length text
  pub moves : after ≡ state
  pub leaves : exit ≡ text ++ drop (length text) out

-- the text of the set of a number, and the state after the set
abbrev pub PutsSet : (s number : ℕ) (out : List ℕ) (size after : ℕ) (exit : List ℕ) → Type 0
PutsSet s number = Puts (write_set (words_drawn number s)) (state_after_set s)

-- the texts of so many sets, numbered from a number on, one after another, and the state after them
abbrev pub PutsSets : (s number count : ℕ) (out : List ℕ) (size after : ℕ) (exit : List ℕ) → Type 0
PutsSets s number count = Puts (generated count number s) (state_after_sets count s)

-- two outcomes of one call are equal
abbrev pub TextsOne : Type 0
TextsOne = (s number count : ℕ) (out : List ℕ) (m n a b : ℕ) (e f : List ℕ)
    → PutsSets s number count out m a e → PutsSets s number count out n b f → (m ≡ n) × (a ≡ b) × (e ≡ f)
