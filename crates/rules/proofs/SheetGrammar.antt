-- A record is read exactly where one stands in the paper's words: what a field was read from stands there, plain or quoted, and what stands there before
-- a comma, a line end or the end of the sheet is read; so field by field.
use Rattle.std.specs.Prelude.{if◌then◌else◌, Option, Some, None}
use mathlib.Core.Path.{◌≡◌, refl, sym, ap, ap₂, ◌∙◌, subst}
use mathlib.Core.Logic.{◌↔◌}
use Prim.Native.Nat.{ℕ, zero, suc, ◌<◌}
use native.Mathlib.Omega.{arith}
use mathlib.Core.List.Memᴰ
use mathlib.Core.List.{List, [], ◌∷◌, ◌++◌, append-nil, append_assoc, Memᴰ}
use mathlib.Core.Bool.{Bool, true, false, ◌||◌}
use lib.Dec.{eqb}
use lib.ListN.{length}
use borrow.Author.Tests.{ne_eqb, eqb-true, eqb-false}
use Rattle.rules.specs.Text.{after_key}
use Rattle.rules.specs.Sheet.{mark, crlf, Field, content, no_field, byte, read_plain, read_quoted, after_quote, read_field, after_end, Step, more, last, no_step, last_of, followed, next_field, Record, fields, no_record, before, read_record}
use Rattle.rules.specs.Sheets.{doubled, Stands, Commas, Begins}
use Rattle.rules.proofs.Booleans.{impossible}
use Rattle.rules.proofs.LineTrips.{key_there, key_back}
use Rattle.rules.proofs.Records.{double_other, more_shorter, record_more, record_last, record_none}
use Rattle.std.proofs.lemmas.Bool.{or_parts}

-- no quote, comma, CR or LF
abbrev pub Plain : ℕ → Type 0
Plain b = (b ≡ 34 → ⊥) × (b ≡ 44 → ⊥) × (b ≡ 13 → ⊥) × (b ≡ 10 → ⊥)

pub plain_byte : (b : ℕ) → mark b ≡ false → Plain b
unfolding mark
plain_byte b e =
    let q = or_parts (eqb b 34) (eqb b 44 || (eqb b 13 || eqb b 10)) e in
    let c = or_parts (eqb b 44) (eqb b 13 || eqb b 10) q.1 in
    let r = or_parts (eqb b 13) (eqb b 10) c.1 in
    (eqb-false b 34 q.0, eqb-false b 44 c.0, eqb-false b 13 r.0, eqb-false b 10 r.1)

no_mark : (b : ℕ) → Plain b → mark b ≡ false
unfolding mark
no_mark b p = rw (ne_eqb b 34 p.0, ne_eqb b 44 p.1, ne_eqb b 13 p.2, ne_eqb b 10 p.3)

-- a field that was read with a byte before it
first_byte : (b : ℕ) (f : Field) (c t : List ℕ) → byte b f ≡ content c t → (d : List ℕ) × (c ≡ b ∷ d) × (f ≡ content d t)
unfolding byte
first_byte b (content d s) c t e = let x : b ∷ d ≡ c = cc in let y : s ≡ t = cc in (d, sym x, ap (content d) y)
first_byte b no_field c t e = impossible cc

-- what a plain field was read from
record PlainWas (s c t : List ℕ) : Type 0 where
  text : s ≡ c ++ t
  plain_bytes : (b : ℕ) → Memᴰ b c → Plain b

plain_none : (s c t : List ℕ) → content [] s ≡ content c t → PlainWas s c t
plain_none s c t e =
    let x : [] ≡ c = cc in
    let y : s ≡ t = cc in
    record { text = y ∙ ap (λ (l : List ℕ). l ++ t) x; plain_bytes = λ b m. absurd (Memᴰ.not-nil (subst (Memᴰ b) (sym x) m)) }

plain_back : (s c t : List ℕ) → read_plain s ≡ content c t → PlainWas s c t
unfolding read_plain
plain_back [] c t e = plain_none [] c t e
plain_back (b ∷ s) c t e = by_mark (mark b) refl e (plain_back s)
  where
    with_more : (d : List ℕ) → mark b ≡ false → c ≡ b ∷ d → PlainWas s d t → PlainWas (b ∷ s) c t
    with_more d m x w = record { text = ap (λ (l : List ℕ). b ∷ l) w.text ∙ ap (λ (l : List ℕ). l ++ t) (sym x); plain_bytes = λ a i. by_place a (subst (Memᴰ a) x i) }
      where
        by_place : (a : ℕ) → Memᴰ a (b ∷ d) → Plain a
        by_place a (Memᴰ.head q) = rw q (plain_byte b m)
        by_place a (Memᴰ.tail i) = w.plain_bytes a i

    by_mark : (m : Bool) → mark b ≡ m → (if m then content [] (b ∷ s) else byte b (read_plain s)) ≡ content c t
        → ((d u : List ℕ) → read_plain s ≡ content d u → PlainWas s d u) → PlainWas (b ∷ s) c t
    by_mark true m e ih = plain_none (b ∷ s) c t e
    by_mark false m e ih = let f = first_byte b (read_plain s) c t e in with_more f.0 m f.1 (ih f.0 t f.2)

-- a quoted field is closed
closed : (s c t : List ℕ) → content [] s ≡ content c t → 34 ∷ s ≡ doubled c ++ (34 ∷ t)
unfolding doubled
closed s c t e =
    let x : [] ≡ c = cc in
    let y : s ≡ t = cc in
    ap (λ (l : List ℕ). 34 ∷ l) y ∙ ap (λ (l : List ℕ). doubled l ++ (34 ∷ t)) x

-- what a quoted field was read from, and what follows one of its quotes
mutual
  unfolding read_quoted doubled

  quoted_back : (s c t : List ℕ) → read_quoted s ≡ content c t → s ≡ doubled c ++ (34 ∷ t)
  quoted_back [] c t e = impossible cc
  quoted_back (b ∷ s) c t e = by_quote (eqb b 34) refl e (λ a. quote_back s c t a) (λ d u a. quoted_back s d u a)
    where
      with_more : (d : List ℕ) → eqb b 34 ≡ false → c ≡ b ∷ d → s ≡ doubled d ++ (34 ∷ t) → b ∷ s ≡ doubled c ++ (34 ∷ t)
      with_more d q x w =
          ap (λ (l : List ℕ). b ∷ l) w ∙ ap (λ (l : List ℕ). l ++ (34 ∷ t)) (sym (double_other b d (eqb-false b 34 q))) ∙ ap (λ (l : List ℕ). doubled l ++ (34 ∷ t)) (sym x)

      by_quote : (q : Bool) → eqb b 34 ≡ q → (if q then after_quote s else byte b (read_quoted s)) ≡ content c t
          → (after_quote s ≡ content c t → 34 ∷ s ≡ doubled c ++ (34 ∷ t)) → ((d u : List ℕ) → read_quoted s ≡ content d u → s ≡ doubled d ++ (34 ∷ u))
          → b ∷ s ≡ doubled c ++ (34 ∷ t)
      by_quote true q e after ih = ap (λ (x : ℕ). x ∷ s) (eqb-true b 34 q) ∙ after e
      by_quote false q e after ih = let f = first_byte b (read_quoted s) c t e in with_more f.0 q f.1 (ih f.0 t f.2)

  quote_back : (s c t : List ℕ) → after_quote s ≡ content c t → 34 ∷ s ≡ doubled c ++ (34 ∷ t)
  quote_back [] c t e = closed [] c t e
  quote_back (b ∷ s) c t e = by_quote (eqb b 34) refl e (λ d u a. quoted_back s d u a)
    where
      with_more : (d : List ℕ) → b ≡ 34 → c ≡ b ∷ d → s ≡ doubled d ++ (34 ∷ t) → 34 ∷ b ∷ s ≡ doubled c ++ (34 ∷ t)
      with_more d q x w =
          ap₂ (λ (y : ℕ) (l : List ℕ). 34 ∷ y ∷ l) q w ∙ ap (λ (l : List ℕ). doubled l ++ (34 ∷ t)) (ap (λ (y : ℕ). y ∷ d) (sym q) ∙ sym x)

      by_quote : (q : Bool) → eqb b 34 ≡ q → (if q then byte b (read_quoted s) else content [] (b ∷ s)) ≡ content c t
          → ((d u : List ℕ) → read_quoted s ≡ content d u → s ≡ doubled d ++ (34 ∷ u)) → 34 ∷ b ∷ s ≡ doubled c ++ (34 ∷ t)
      by_quote true q e ih = let f = first_byte b (read_quoted s) c t e in with_more f.0 (eqb-true b 34 q) f.1 (ih f.0 t f.2)
      by_quote false q e ih = closed (b ∷ s) c t e

-- what a field was read from
record FieldWas (s c t : List ℕ) : Type 0 where
  taken : List ℕ
  stands : Stands c taken
  text : s ≡ taken ++ t

field_back : (s c t : List ℕ) → read_field s ≡ content c t → FieldWas s c t
unfolding read_field read_plain
field_back [] c t e = by_plain (plain_back [] c t e)
  where
    by_plain : PlainWas [] c t → FieldWas [] c t
    by_plain w = record { taken = c; stands = Stands.plain w.plain_bytes; text = w.text }
field_back (b ∷ s) c t e = by_quote (eqb b 34) refl e
  where
    by_plain : PlainWas (b ∷ s) c t → FieldWas (b ∷ s) c t
    by_plain w = record { taken = c; stands = Stands.plain w.plain_bytes; text = w.text }

    by_quote : (q : Bool) → eqb b 34 ≡ q → (if q then read_quoted s else read_plain (b ∷ s)) ≡ content c t → FieldWas (b ∷ s) c t
    by_quote true q e = record {
      taken = 34 ∷ (doubled c ++ (34 ∷ []));
      stands = Stands.quoted;
      text = ap₂ (λ (x : ℕ) (l : List ℕ). x ∷ l) (eqb-true b 34 q) (quoted_back s c t e ∙ sym (append_assoc (doubled c) (34 ∷ []) t));
    }
    by_quote false q e = by_plain (plain_back (b ∷ s) c t e)

-- what may follow a field: nothing, or a mark that is no quote
data Follows : List ℕ → Type 0 where
  nothing : Follows []
  after_mark : {b : ℕ} {s : List ℕ} → mark b ≡ true → (b ≡ 34 → ⊥) → Follows (b ∷ s)

plain_end : (t : List ℕ) → Follows t → read_plain t ≡ content [] t
unfolding read_plain
plain_end [] f = refl
plain_end (b ∷ t) (Follows.after_mark m n) = rw m

plain_there : (c t : List ℕ) → ((b : ℕ) → Memᴰ b c → Plain b) → Follows t → read_plain (c ++ t) ≡ content c t
unfolding read_plain byte
plain_there [] t p f = plain_end t f
plain_there (b ∷ c) t p f = rw (no_mark b (p b (Memᴰ.head refl)), plain_there c t (λ a i. p a (Memᴰ.tail i)) f)

quote_end : (t : List ℕ) → Follows t → after_quote t ≡ content [] t
unfolding after_quote
quote_end [] f = refl
quote_end (b ∷ t) (Follows.after_mark m n) = rw (ne_eqb b 34 n)

quoted_there : (c t : List ℕ) → Follows t → read_quoted (doubled c ++ (34 ∷ t)) ≡ content c t
unfolding read_quoted doubled byte
quoted_there [] t f = quote_end t f
quoted_there (b ∷ c) t f = by_quote (eqb b 34) refl (quoted_there c t f)
  where
    by_quote : (q : Bool) → eqb b 34 ≡ q → read_quoted (doubled c ++ (34 ∷ t)) ≡ content c t
        → read_quoted ((if q then 34 ∷ 34 ∷ doubled c else b ∷ doubled c) ++ (34 ∷ t)) ≡ content (b ∷ c) t
    by_quote true q ih = ap (byte 34) ih ∙ ap (λ (x : ℕ). content (x ∷ c) t) (sym (eqb-true b 34 q))
    by_quote false q ih = rw (q, ih)

plain_field : (c t : List ℕ) → ((b : ℕ) → Memᴰ b c → Plain b) → Follows t → read_field (c ++ t) ≡ content c t
unfolding read_field
plain_field [] [] p w = refl
plain_field [] (b ∷ t) p (Follows.after_mark m n) = rw (ne_eqb b 34 n) (plain_end (b ∷ t) (Follows.after_mark m n))
plain_field (b ∷ c) t p w = rw (ne_eqb b 34 (p b (Memᴰ.head refl)).0) (plain_there (b ∷ c) t p w)

-- what stands before such a follower is read
field_there : {c f : List ℕ} (t : List ℕ) → Stands c f → Follows t → read_field (f ++ t) ≡ content c t
unfolding read_field
field_there t (Stands.plain {c} p) w = plain_field c t p w
field_there t (Stands.quoted {c}) w = ap read_quoted (append_assoc (doubled c) (34 ∷ []) t) ∙ quoted_there c t w

comma_follows : {t : List ℕ} → Follows (44 ∷ t)
unfolding mark
comma_follows = Follows.after_mark refl (λ (e : ◌≡◌ {A = ℕ} 44 34). omega arith)

-- the end of a record, and the bytes after it
data Ends : List ℕ → List ℕ → Type 0 where
  crlf_ends : {t : List ℕ} → Ends (13 ∷ 10 ∷ t) t
  lf_ends : {t : List ℕ} → Ends (10 ∷ t) t
  sheet_ends : Ends [] []

ends_follow : {u t : List ℕ} → Ends u t → Follows u
unfolding mark
ends_follow Ends.crlf_ends = Follows.after_mark refl (λ (e : ◌≡◌ {A = ℕ} 13 34). omega arith)
ends_follow Ends.lf_ends = Follows.after_mark refl (λ (e : ◌≡◌ {A = ℕ} 10 34). omega arith)
ends_follow Ends.sheet_ends = Follows.nothing

end_back : (u t : List ℕ) → after_end u ≡ Some t → Ends u t
unfolding after_end
end_back [] t e = let x : [] ≡ t = cc in subst (Ends []) x Ends.sheet_ends
end_back (b ∷ u) t e = by_lf (eqb b 10) refl e
  where
    by_lf : (l : Bool) → eqb b 10 ≡ l → (if l then Some u else after_key crlf (b ∷ u)) ≡ Some t → Ends (b ∷ u) t
    by_lf true l e = let x : u ≡ t = cc in subst (λ (y : List ℕ). Ends y t) (ap₂ (λ (i : ℕ) (y : List ℕ). i ∷ y) (sym (eqb-true b 10 l)) (sym x)) Ends.lf_ends
    by_lf false l e = subst (λ (y : List ℕ). Ends y t) (sym (key_back crlf (b ∷ u) t e)) Ends.crlf_ends

-- the next field, by what follows it
last_is : (c u t : List ℕ) → Ends u t → followed (content c u) ≡ last c t
unfolding followed last_of after_end
last_is c u t (Ends.crlf_ends) = ap (last_of c) (key_there crlf t)
last_is c u t (Ends.lf_ends) = refl
last_is c u t (Ends.sheet_ends) = refl

-- what a next field was read from
data NextWas (s : List ℕ) : Step → Type 0 where
  was_more : {c t : List ℕ} → read_field s ≡ content c (44 ∷ t) → NextWas s (more c t)
  was_last : {c u t : List ℕ} → read_field s ≡ content c u → Ends u t → NextWas s (last c t)
  was_none : NextWas s no_step

next_was : (s : List ℕ) → NextWas s (next_field s)
unfolding followed last_of
next_was s = by_field (read_field s) refl
  where
    by_end : (c u : List ℕ) → read_field s ≡ content c u → (o : Option (List ℕ)) → after_end u ≡ o → NextWas s (last_of c o)
    by_end c u f None e = NextWas.was_none
    by_end c u f (Some t) e = NextWas.was_last f (end_back u t e)

    by_comma : (c : List ℕ) (b : ℕ) (u : List ℕ) → read_field s ≡ content c (b ∷ u) → (q : Bool) → eqb b 44 ≡ q
        → NextWas s (if q then more c u else last_of c (after_end (b ∷ u)))
    by_comma c b u f true e = NextWas.was_more (f ∙ ap (λ (x : ℕ). content c (x ∷ u)) (eqb-true b 44 e))
    by_comma c b u f false e = by_end c (b ∷ u) f (after_end (b ∷ u)) refl

    by_field : (g : Field) → read_field s ≡ g → NextWas s (followed g)
    by_field no_field f = NextWas.was_none
    by_field (content c []) f = by_end c [] f (after_end []) refl
    by_field (content c (b ∷ u)) f = by_comma c b u f (eqb b 44) refl

-- what a record was read from
record RecordWas (s : List ℕ) (cs : List (List ℕ)) (after : List ℕ) : Type 0 where
  taken : List ℕ
  ending : List ℕ
  commas : Commas cs taken
  ends : Ends ending after
  text : s ≡ taken ++ ending

back_within : (n : ℕ) (s : List ℕ) → length s < n → (cs : List (List ℕ)) (after : List ℕ) → read_record s ≡ fields cs after → RecordWas s cs after
unfolding before
back_within zero s h cs after e = absurd (omega arith)
back_within (suc n) s h cs after e = by_step (next_field s) refl (next_was s) (λ t l ds a f. back_within n t (omega arith) ds a f)
  where
    with_more : (c t : List ℕ) → FieldWas s c (44 ∷ t) → (ds : List (List ℕ)) → fields (c ∷ ds) after ≡ fields cs after → RecordWas t ds after → RecordWas s cs after
    with_more c t f ds e w =
        let x : c ∷ ds ≡ cs = cc in
        record {
          taken = f.taken ++ (44 ∷ w.taken);
          ending = w.ending;
          commas = subst (λ (y : List (List ℕ)). Commas y (f.taken ++ (44 ∷ w.taken))) x (Commas.more f.stands w.commas);
          ends = w.ends;
          text = f.text ∙ ap (λ (y : List ℕ). f.taken ++ (44 ∷ y)) w.text ∙ sym (append_assoc f.taken (44 ∷ w.taken) w.ending);
        }

    by_record : (c t : List ℕ) → FieldWas s c (44 ∷ t) → length t < length s → (r : Record) → read_record t ≡ r → before c r ≡ fields cs after
        → ((t : List ℕ) → length t < length s → (ds : List (List ℕ)) (a : List ℕ) → read_record t ≡ fields ds a → RecordWas t ds a) → RecordWas s cs after
    by_record c t f l (fields ds a) g e ih = let y : a ≡ after = cc in with_more c t f ds (ap (fields (c ∷ ds)) (sym y) ∙ e) (ih t l ds after (g ∙ ap (fields ds) y))
    by_record c t f l no_record g e ih = impossible cc

    with_last : (c u t : List ℕ) → FieldWas s c u → Ends u t → fields (c ∷ []) t ≡ fields cs after → RecordWas s cs after
    with_last c u t f w e =
        let x : c ∷ [] ≡ cs = cc in
        let y : t ≡ after = cc in
        record {
          taken = f.taken;
          ending = u;
          commas = subst (λ (y : List (List ℕ)). Commas y f.taken) x (Commas.one f.stands);
          ends = subst (Ends u) y w;
          text = f.text;
        }

    by_step : (x : Step) → next_field s ≡ x → NextWas s x
        → ((t : List ℕ) → length t < length s → (ds : List (List ℕ)) (a : List ℕ) → read_record t ≡ fields ds a → RecordWas t ds a) → RecordWas s cs after
    by_step (more c t) x (NextWas.was_more f) ih =
        by_record c t (field_back s c (44 ∷ t) f) (more_shorter s c t x) (read_record t) refl (sym (record_more s c t x) ∙ e) ih
    by_step (last c t) x (NextWas.was_last {u = u} f w) ih = with_last c u t (field_back s c u f) w (sym (record_last s c t x) ∙ e)
    by_step no_step x w ih = let f = sym (record_none s x) ∙ e in impossible cc

-- what stands as a record is read
record_there : {cs : List (List ℕ)} {r : List ℕ} → Commas cs r → (u after : List ℕ) → Ends u after → read_record (r ++ u) ≡ fields cs after
unfolding before followed
record_there (Commas.one {c} {f} w) u after e = record_last (f ++ u) c after (ap followed (field_there u w (ends_follow e)) ∙ last_is c u after e)
record_there (Commas.more {c} {f} {r} {cs} w k) u after e =
    let t = r ++ u in
    let x : next_field (f ++ (44 ∷ t)) ≡ more c t = ap followed (field_there (44 ∷ t) w comma_follows) in
    ap read_record (append_assoc f (44 ∷ r) u) ∙ record_more (f ++ (44 ∷ t)) c t x ∙ ap (before c) (record_there k u after e)

-- a record is read exactly where it stands
pub record_exact : (s : List ℕ) (cs : List (List ℕ)) (after : List ℕ) → (read_record s ≡ fields cs after) ↔ Begins s cs after
record_exact s cs after = (there, back)
  where
    by_end : (r u t : List ℕ) → Commas cs r → Ends u t → Begins (r ++ u) cs t
    by_end r u t k (Ends.crlf_ends) = Begins.crlf k
    by_end r u t k (Ends.lf_ends) = Begins.lf k
    by_end r u t k (Ends.sheet_ends) = subst (λ (y : List ℕ). Begins y cs []) (sym (append-nil r)) (Begins.end k)

    there : read_record s ≡ fields cs after → Begins s cs after
    there e =
        let w = back_within (suc (length s)) s (omega arith) cs after e in
        subst (λ (y : List ℕ). Begins y cs after) (sym w.text) (by_end w.taken w.ending after w.commas w.ends)

    back : {s : List ℕ} {cs : List (List ℕ)} {after : List ℕ} → Begins s cs after → read_record s ≡ fields cs after
    back (Begins.crlf {r} {after} k) = record_there k (13 ∷ 10 ∷ after) after Ends.crlf_ends
    back (Begins.lf {r} {after} k) = record_there k (10 ∷ after) after Ends.lf_ends
    back (Begins.end {r} k) = ap read_record (sym (append-nil r)) ∙ record_there k [] [] Ends.sheet_ends
