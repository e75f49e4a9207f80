-- Bytes added to a page: one outcome, and parts added one after the other.
use mathlib.Core.Path.{◌≡◌, sym, ap, ◌∙◌}
use Prim.Native.Nat.{ℕ, ◌≤◌}
use native.Mathlib.Omega.{arith}
use mathlib.Core.List.{List, [], ◌++◌}
use lib.ListN.{length, take, drop, length-append}
use lib.Seq.{take_at}
use Rattle.print.specs.Place.{put}
use Rattle.print.specs.Pages.{Fits, Adds, AddsOne}
use Rattle.print.specs.declared.Page.{Page}
use Rattle.print.proofs.Putting.{puts_one, put_nil, put_start, put_length, put_after, then}

-- one outcome
pub adds_one : AddsOne
adds_one old vs p q f s = puts_one old.out.now old.at vs p.at q.at p.out.now q.out.now f.puts s.puts

-- a page keeps its length
page_length : {old new : Page} (vs : List ℕ) → Adds old vs new → length new.out.now ≡ length old.out.now
page_length {old} vs p = ap length p.puts.leaves ∙ put_length old.out.now old.at vs p.fits

-- parts, one after the other
pub adds_both : {old mid new : Page} (a b : List ℕ) → Adds old a mid → Adds mid b new → Adds old (a ++ b) new
adds_both {old} a b first second =
    record {
      fits = omega (arith, first.puts.says, second.fits, page_length a first, length-append a b);
      same = second.same ∙ first.same;
      puts = then old.out.now old.at a first.fits b first.puts second.puts;
    }

-- what was added at the start of a page stands there
pub at_start : {old new : Page} (vs : List ℕ) → old.at ≡ 0 → Adds old vs new → take new.at new.out.now ≡ vs
at_start {old} {new} vs start p =
    let n : length vs ≡ new.at = omega (arith, p.puts.says) in
    let s : put old.out.now old.at vs ≡ put old.out.now 0 vs = ap (λ (k : ℕ). put old.out.now k vs) start in
    ap (take new.at) (p.puts.leaves ∙ s ∙ put_start old.out.now vs) ∙ take_at vs (drop (length vs) old.out.now) new.at n

-- of what a loop adds part by part: rest is still to come at the page's place, and makes the whole
pub record ToCome (whole : List ℕ) (page : Page) (rest : List ℕ) : Type 0 where
  pub room : Fits page rest
  pub makes : put page.out.now page.at rest ≡ whole

-- then the part a was added, and b is still to come
pub less_to_come : {page mid : Page} {whole rest : List ℕ} (a b : List ℕ) → Adds page a mid → ToCome whole page rest → rest ≡ a ++ b → ToCome whole mid b
less_to_come {page} {mid} {whole} {rest} a b first going parts =
    record {
      room = omega (arith, going.room, first.puts.says, page_length a first, ap length parts, length-append a b);
      makes =
          put_after page.out.now page.at a first.fits b first.puts
          ∙ ap (put page.out.now page.at) (sym parts)
          ∙ going.makes;
    }

-- the first part of all was added at the start of a page
pub first_to_come : {page mid : Page} (vs a b : List ℕ) → Adds page a mid → page.at ≡ 0 → length vs ≤ length page.out.now → vs ≡ a ++ b
    → ToCome (vs ++ drop (length vs) page.out.now) mid b
first_to_come {page} {mid} vs a b first start room parts =
    less_to_come a b first (record { room = omega arith; makes = ap (λ (k : ℕ). put page.out.now k vs) start ∙ put_start page.out.now vs }) parts

-- at the end nothing
pub none_to_come : {page : Page} {whole rest : List ℕ} → ToCome whole page rest → rest ≡ [] → page.out.now ≡ whole
none_to_come {page} going nothing = sym (put_nil page.out.now page.at) ∙ ap (put page.out.now page.at) (sym nothing) ∙ going.makes
