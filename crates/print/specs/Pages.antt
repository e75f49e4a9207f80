-- Bytes added to a page: what the calls promise, and that it leaves one outcome.
use Rattle.std.specs.Prelude.{◌≡◌, ℕ, ◌+◌, List, ◌≤◌, length}
use Rattle.print.specs.Place.{Puts}
use Rattle.print.specs.declared.Page.{Page}

-- there is room for bytes at the page's place
abbrev pub Fits : Page → List ℕ → Type 0
Fits page vs = page.at + length vs ≤ length page.out.now

-- bytes, for which there is room, are put at the page's place, and the place moves to their end; the page stays one of the same buffer
pub record Adds (old : Page) (vs : List ℕ) (new : Page) : Type 0 where
  pub fits : Fits old vs
  pub same : new.out.ghost_name ≡ old.out.ghost_name
  pub puts : Puts old.out.now old.at vs new.at new.out.now

-- two outcomes of one call are equal
abbrev pub AddsOne : Type 0
AddsOne = (old : Page) (vs : List ℕ) (p q : Page) → Adds old vs p → Adds old vs q → (p.at ≡ q.at) × (p.out.now ≡ q.out.now)
