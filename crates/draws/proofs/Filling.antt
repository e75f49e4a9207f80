-- The loop that fills a table: the first task stands there; after i tasks in all the others are those still to be drawn from the state.
use Rattle.std.proofs.Common.{◌≡◌, ℕ, ◌+◌, ◌-◌, ◌*◌, ◌<◌, ◌≤◌, min, Bool, ◌&&◌, eqb, List, [], ◌∷◌, ◌++◌, length, take, drop, sym, refl, ap, ◌∙◌, ap₂, append_assoc, append-nil, arith, length-append, take-append-drop, length-take-le, drop-drop, if◌then◌else◌}
use Rattle.rules.specs.declared.Task.{Task}
use Rattle.rules.specs.Generator.{state_after, task_drawn, tasks_drawn, long_kernel, with_long, words_of}
use Rattle.rules.proofs.Slices.{four_more}
use Rattle.rules.proofs.Drawn.{state_none, state_more, rest, rest_all, rest_more, rest_none, words_of_none, words_of_more, words_of_append, length_words_of}

-- i of n tasks are written; those of done came after the first, when the state was s₀, the table table₀ and the least D d₀
pub record Filled (s₀ n : ℕ) (asked : Bool) (table₀ : List ℕ) (d₀ s : ℕ) (table : List ℕ) (d i : ℕ) : Type 0 where
  pub done : List Task
  pub low : 1 ≤ i
  pub most : i ≤ n
  pub fits : 4 * n ≤ length table₀
  pub all : rest asked d₀ (tasks_drawn (n - 1) s₀) ≡ done ++ rest asked d (tasks_drawn (n - i) s)
  pub count : length done ≡ i - 1
  pub written : table ≡ (take 4 table₀ ++ words_of done) ++ drop (4 * i) table₀
  pub left : state_after (4 * (n - i)) s ≡ state_after (4 * (n - 1)) s₀

-- four draws are made of those that are left
draws_left : (n i s : ℕ) → i < n → state_after (4 * (n - (i + 1))) (state_after 4 s) ≡ state_after (4 * (n - i)) s
draws_left n i s h =
    let e : 4 + 4 * (n - (i + 1)) ≡ 4 * (n - i) = omega arith in
    state_more 4 (4 * (n - (i + 1))) s ∙ ap (λ (k : ℕ). state_after k s) e

module _ (s₀ n : ℕ) (asked : Bool) (table₀ : List ℕ) (d₀ : ℕ) where
  -- only the first task is there
  pub filled_first : 1 ≤ n → 4 * n ≤ length table₀ → Filled s₀ n asked table₀ d₀ s₀ table₀ d₀ 1
  filled_first h room =
      record {
        done = [];
        low = omega arith;
        most = h;
        fits = room;
        all = refl;
        count = refl;
        written =
            sym (take-append-drop 4 table₀)
            ∙ ap (λ (ws : List ℕ). ws ++ drop 4 table₀) (sym (append-nil (take 4 table₀)) ∙ ap (λ (ws : List ℕ). take 4 table₀ ++ ws) (sym words_of_none));
        left = refl;
      }

  module _ {s : ℕ} {table : List ℕ} {d i : ℕ} (F : Filled s₀ n asked table₀ d₀ s table d i) where
    abbrev there : List ℕ
    there = take 4 table₀ ++ words_of F.done

    there_length : length there ≡ 4 * i
    there_length =
        omega (
          arith,
          length-append (take 4 table₀) (words_of F.done),
          length-take-le 4 table₀ (omega (arith, F.fits, F.low, F.most)),
          length_words_of F.done,
          F.count,
          F.low,
        )

    -- one task more
    pub filled_more : {τ υ : Task} {s' d' : ℕ} {table' : List ℕ} → i < n → τ ≡ task_drawn s → s' ≡ state_after 4 s
        → υ ≡ (if asked && eqb (n - i) 1 then long_kernel d τ else τ) → table' ≡ take (4 * i) table ++ (υ.C ∷ υ.D ∷ υ.T ∷ υ.R ∷ drop (4 * i + 4) table)
        → d' ≡ min d τ.D → Filled s₀ n asked table₀ d₀ s' table' d' (i + 1)
    filled_more {τ} {υ} {s'} {d'} {table'} h et es eu e ed =
        let done : List Task = F.done in
        let next : n - i - 1 ≡ n - (i + 1) = omega arith in
        let drew : rest asked d (tasks_drawn (n - i) s) ≡ υ ∷ rest asked d' (tasks_drawn (n - (i + 1)) s') =
        rest_more asked d (n - i) s (omega arith)
        ∙ ap (λ (x : Task). (if asked && eqb (n - i) 1 then long_kernel d x else x) ∷ rest asked (min d x.D) (tasks_drawn (n - i - 1) (state_after 4 s))) (sym et)
        ∙ ap (λ (x : Task). x ∷ rest asked (min d τ.D) (tasks_drawn (n - i - 1) (state_after 4 s))) (sym eu)
        ∙ ap₂ (λ (x k : ℕ). υ ∷ rest asked x (tasks_drawn (n - i - 1) k)) (sym ed) (sym es)
        ∙ ap (λ (k : ℕ). υ ∷ rest asked d' (tasks_drawn k s')) next
        in
        let words : words_of (done ++ (υ ∷ [])) ≡ words_of done ++ (υ.C ∷ υ.D ∷ υ.T ∷ υ.R ∷ []) =
        words_of_append done (υ ∷ []) ∙ ap (λ (ws : List ℕ). words_of done ++ ws) (words_of_more υ [] ∙ ap (λ (ws : List ℕ). υ.C ∷ υ.D ∷ υ.T ∷ υ.R ∷ ws) words_of_none)
        in
        record {
          done = done ++ (υ ∷ []);
          low = omega arith;
          most = omega arith;
          fits = F.fits;
          all =
              F.all
              ∙ ap (λ (ts : List Task). done ++ ts) drew
              ∙ sym (append_assoc done (υ ∷ []) (rest asked d' (tasks_drawn (n - (i + 1)) s')));
          count = omega (arith, length-append done (υ ∷ []), F.count, F.low);
          written =
              four_more table₀ there i _ _ _ _ there_length F.written e
              ∙ ap
              (λ (ws : List ℕ). ws ++ drop (4 * (i + 1)) table₀)
              (append_assoc (take 4 table₀) (words_of done) (υ.C ∷ υ.D ∷ υ.T ∷ υ.R ∷ []) ∙ ap (λ (ws : List ℕ). take 4 table₀ ++ ws) (sym words));
          left = ap (state_after (4 * (n - (i + 1)))) es ∙ draws_left n i s h ∙ F.left;
        }

    -- no task is left: the state is the one after all draws
    filled_state : n ≤ i → s ≡ state_after (4 * (n - 1)) s₀
    filled_state h =
        let z : 4 * (n - i) ≡ 0 = omega arith in
        sym (state_none s) ∙ ap (λ (k : ℕ). state_after k s) (sym z) ∙ F.left

    -- and the words are those of all tasks
    filled_all : n ≤ i → table ≡ (take 4 table₀ ++ words_of (rest asked d₀ (tasks_drawn (n - 1) s₀))) ++ drop (4 * n) table₀
    filled_all h =
        let None : rest asked d₀ (tasks_drawn (n - 1) s₀) ≡ F.done =
        F.all ∙ ap (λ (ts : List Task). F.done ++ ts) (rest_none asked d (n - i) s (omega arith)) ∙ append-nil F.done
        in
        let e : 4 * i ≡ 4 * n = omega (arith, F.most) in
        F.written ∙ ap₂ (λ (ts : List Task) (k : ℕ). (take 4 table₀ ++ words_of ts) ++ drop k table₀) (sym None) e

-- the whole: the first task τ, put at the start of old, and the loop after it
module _ (s n : ℕ) (asked : Bool) (old : List ℕ) {τ : Task} {s₀ : ℕ} {table₀ : List ℕ} (h : 1 ≤ n) (et : τ ≡ task_drawn s) (es : s₀ ≡ state_after 4 s)
    (put : table₀ ≡ take 0 old ++ (τ.C ∷ τ.D ∷ τ.T ∷ τ.R ∷ drop (0 + 4) old)) {s' : ℕ} {table : List ℕ} {d i : ℕ}
    (F : Filled s₀ n asked table₀ τ.D s' table d i) (e : n ≤ i) where
  pub all_drawn : s' ≡ state_after (4 * n) s
  all_drawn =
      let z : 4 * (n - 0) ≡ 4 * n = omega arith in
      filled_state s₀ n asked table₀ τ.D F e ∙ ap (state_after (4 * (n - 1))) es ∙ draws_left n 0 s (omega arith) ∙ ap (λ (k : ℕ). state_after k s) z

  pub all_written : table ≡ words_of (if asked then with_long (tasks_drawn n s) else tasks_drawn n s) ++ drop (4 * n) old
  all_written =
      let front : take 4 table₀ ≡ τ.C ∷ τ.D ∷ τ.T ∷ τ.R ∷ [] = ap (take 4) put in
      let m : 4 * n ≡ 4 + 4 * (n - 1) = omega arith in
      let back : drop (4 * n) table₀ ≡ drop (4 * n) old =
      ap (λ (k : ℕ). drop k table₀) m
      ∙ sym (drop-drop (4 * (n - 1)) 4 table₀)
      ∙ ap (λ (l : List ℕ). drop (4 * (n - 1)) (drop 4 l)) put
      ∙ drop-drop (4 * (n - 1)) 4 old
      ∙ ap (λ (k : ℕ). drop k old) (sym m)
      in
      let tasks : (if asked then with_long (tasks_drawn n s) else tasks_drawn n s) ≡ τ ∷ rest asked τ.D (tasks_drawn (n - 1) s₀) =
      rest_all asked n s h ∙ ap₂ (λ (υ : Task) (k : ℕ). υ ∷ rest asked υ.D (tasks_drawn (n - 1) k)) (sym et) (sym es)
      in
      filled_all s₀ n asked table₀ τ.D F e
      ∙ ap₂ (λ (x y : List ℕ). (x ++ words_of (rest asked τ.D (tasks_drawn (n - 1) s₀))) ++ y) front back
      ∙ ap (λ (ws : List ℕ). ws ++ drop (4 * n) old) (sym (words_of_more τ (rest asked τ.D (tasks_drawn (n - 1) s₀))) ∙ ap words_of (sym tasks))
