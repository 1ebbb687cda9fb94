-- What the tables mean is not changed by writes past the entries that are looked at: `down_under`, `labs_set`, `chunks_set`, `clauses_set`,
-- `waits_set`; `waits_rows` says the same of the rows of facts. `clauses_pushed` : a write just past them is one clause more.
use Rattle.std.specs.Prelude.{ℕ, zero, suc, ◌<◌, ◌≤◌, ◌≡◌, refl, ◌⊎◌, List, [], ◌∷◌, ◌++◌, length, get_or, set}
use Rattle.std.proofs.Common.{sym, ◌∙◌, ⊎_elim, arith, eq-or-lt_of_le, get_or-set_same, get_or-set_other}
use Rattle.std.proofs.Math.Path.{ap}
use Rattle.scope.specs.Logic.Form.{Form}
use Rattle.scope.specs.Limits.{most_principals, most_clauses, most_chunks}
use Rattle.scope.specs.Logic.Obligation.{Lab, lab, Obligation}
use Rattle.facts.specs.Kept.{Agree, agree_self, agree_then}
use Rattle.machine.specs.declared.Obligation as E
use Rattle.machine.specs.Tables.{clause_places, block}
use Rattle.machine.specs.Machine.{Stack, nothing}
use Rattle.walks.specs.Trees.{Reading}
use Rattle.walks.specs.Blocks.{Same, same_block}
use Rattle.walks.specs.Related.{StackEntry, entry_at, down_from, labs, chunks_of, Below, Clauses, Waits, none_waits, one_waits}

down_length : (stack : Stack) (n : ℕ) → length (down_from stack n) ≡ n
unfolding down_from
down_length stack zero = refl
down_length stack (suc n) = ap suc (down_length stack n)

-- An entry by its parts, and the parts of an entry.
pub entry_is : (stack : Stack) (i : ℕ) {o : E.Obligation} {ch sv : List ℕ} → get_or stack.obligations i nothing ≡ o →
    block most_chunks stack.chunks i ≡ ch → block most_principals stack.saved i ≡ sv → entry_at stack i ≡ record { head = o; chunks = ch; saved = sv }
unfolding entry_at
entry_is stack i p q r = rw (p, q, r) refl

module _ (stack : Stack) (i : ℕ) {e : StackEntry} (is : entry_at stack i ≡ e) where
  pub head_is : get_or stack.obligations i nothing ≡ e.head
  unfolding entry_at
  head_is = ap (λ (e : StackEntry). e.head) is

  pub chunks_is : block most_chunks stack.chunks i ≡ e.chunks
  unfolding entry_at
  chunks_is = ap (λ (e : StackEntry). e.chunks) is

  pub saved_is : block most_principals stack.saved i ≡ e.saved
  unfolding entry_at
  saved_is = ap (λ (e : StackEntry). e.saved) is

-- Below place n two stacks are the same where their tables are.
pub record Under (n : ℕ) (stack stack' : Stack) : Type 0 where
  pub obligations : (i : ℕ) → i < n → get_or stack'.obligations i nothing ≡ get_or stack.obligations i nothing
  pub chunks : Same most_chunks n stack.chunks stack'.chunks
  pub saved : Same most_principals n stack.saved stack'.saved

pub entry_under : {n : ℕ} {stack stack' : Stack} (i : ℕ) → i < n → Under n stack stack' → entry_at stack' i ≡ entry_at stack i
unfolding entry_at
entry_under {stack} {stack'} i h u =
    entry_is stack' i (u.obligations i h) (same_block most_chunks i h u.chunks) (same_block most_principals i h u.saved)

pub down_under : {m : ℕ} {stack stack' : Stack} (n : ℕ) → n ≤ m → Under m stack stack' → down_from stack' n ≡ down_from stack n
unfolding down_from
down_under zero h u = refl
down_under (suc n) h u = rw (entry_under n h u, down_under n (omega arith) u) refl

-- The current entry and the one above are written.
pub under_two : (stack : Stack) (n : ℕ) (p q : E.Obligation) {ch sv : List ℕ} → Same most_chunks n stack.chunks ch → Same most_principals n stack.saved sv →
    Under n stack (record { obligations = set (set stack.obligations (suc n) p) n q; chunks = ch; saved = sv })
under_two stack n p q chunks saved =
    record {
      obligations =
          λ i h.
          let other : i ≡ n → ⊥ = λ e. omega arith in
          let other' : i ≡ suc n → ⊥ = λ e. omega arith in
          get_or-set_other (set stack.obligations (suc n) p) n i q nothing other ∙
          get_or-set_other stack.obligations (suc n) i p nothing other';
      chunks = chunks;
      saved = saved;
    }

-- A number of the table that is not written.
kept_at : (l : List ℕ) (i j x : ℕ) → j < i → get_or (set l i x) j 0 ≡ get_or l j 0
kept_at l i j x h = let other : j ≡ i → ⊥ = λ q. omega arith in get_or-set_other l i j x 0 other

pub labs_set : (tree : ℕ → Form) (n i x y : ℕ) (cl ats : List ℕ) → n ≤ i →
    labs tree n (set cl i x) (set ats i y) ≡ labs tree n cl ats
unfolding labs
labs_set tree zero i x y cl ats h = refl
labs_set tree (suc n) i x y cl ats h =
    rw (labs_set tree n i x y cl ats (omega arith), kept_at cl i n x h, kept_at ats i n y h)

pub chunks_set : (tree : ℕ → Form) (n i x : ℕ) (ch : List ℕ) → n ≤ i → chunks_of tree n (set ch i x) ≡ chunks_of tree n ch
unfolding chunks_of
chunks_set tree zero i x ch h = refl
chunks_set tree (suc n) i x ch h = rw (chunks_set tree n i x ch (omega arith), kept_at ch i n x h)

pub below_set : {F n : ℕ} {l : List ℕ} (i x : ℕ) → n ≤ i → Below F n l → Below F n (set l i x)
below_set {F} {n} {l} i x h b = record { each = λ j g. rw (kept_at l i j x (omega arith)) (b.each j g) }

pub below_less : {F n m : ℕ} {l : List ℕ} → m ≤ n → Below F n l → Below F m l
below_less h b = record { each = λ j g. b.each j (omega arith) }

pub below_more : {F n : ℕ} {l : List ℕ} (x : ℕ) → n < length l → x < F → Below F n l → Below F (suc n) (set l n x)
below_more {F} {n} {l} x room small b = record { each = λ j g. go j (eq-or-lt_of_le {n = j} {m = n} (omega arith)) }
  where
    go : (j : ℕ) → (j ≡ n) ⊎ (j < n) → get_or (set l n x) j 0 < F
    go j = ⊎_elim (λ e. rw (e, get_or-set_same l n x 0 room) small) (λ g. rw (kept_at l n j x g) (b.each j g))

pub clauses_set : {T : Reading} {cl ats : List ℕ} {c : ℕ} {ls : List Lab} (i x y : ℕ) → c ≤ i →
    Clauses T cl ats c ls → Clauses T (set cl i x) (set ats i y) c ls
clauses_set {T} {cl} {ats} {c} i x y h k =
    record {
      are = k.are ∙ sym (labs_set T.tree c i x y cl ats h);
      known = below_set i x h k.known;
      few = k.few;
    }

pub clauses_pushed : {T : Reading} {cl ats : List ℕ} {c : ℕ} {ls : List Lab} (x y : ℕ) → x < T.formulas → c < most_clauses →
    length cl ≡ clause_places → length ats ≡ clause_places → Clauses T cl ats c ls →
    Clauses T (set cl c x) (set ats c y) (suc c) (ls ++ (lab (T.tree x) y ∷ []))
unfolding labs
clauses_pushed {T} {cl} {ats} {c} {ls} x y small h p q k =
    let room : c < length cl = omega arith in
    let room' : c < length ats = omega arith in
    record {
      are =
          rw (labs_set T.tree c c x y cl ats (omega arith), get_or-set_same cl c x 0 room, get_or-set_same ats c y 0 room')
          (ap (λ (l : List Lab). l ++ (lab (T.tree x) y ∷ [])) k.are);
      known = below_more x room small k.known;
      few = h;
    }

pub waits_set : {T : Reading} {rows cl ats : List ℕ} {n c : ℕ} {es : List StackEntry} {os : List Obligation} (i x y : ℕ) →
    c ≤ i → Waits T rows cl ats n c es os → Waits T rows (set cl i x) (set ats i y) n c es os
waits_set i x y h none_waits = none_waits
waits_set {c} i x y h (one_waits {d} less fewer rests size clauses kept agree saved more) =
    let low : d ≤ i = omega arith in
    one_waits less fewer rests size (clauses_set i x y low clauses) kept agree saved (waits_set i x y low more)

pub waits_rows : {T : Reading} {rows rows' cl ats : List ℕ} {n c : ℕ} {es : List StackEntry} {os : List Obligation} →
    Agree n rows rows' → Waits T rows cl ats n c es os → Waits T rows' cl ats n c es os
waits_rows a none_waits = none_waits
waits_rows {rows} {rows'} {n} a (one_waits {m} less fewer rests size clauses kept agree saved more) =
    one_waits less fewer rests size clauses kept (agree_then less agree a) saved
    (waits_rows (agree_then less (agree_self (suc m) rows) a) more)

pub waits_wider : {T : Reading} {rows cl ats : List ℕ} {n n' c c' : ℕ} {es : List StackEntry} {os : List Obligation} →
    n ≤ n' → c ≤ c' → Waits T rows cl ats n c es os → Waits T rows cl ats n' c' es os
waits_wider h g none_waits = none_waits
waits_wider {n} {n'} {c} {c'} h g (one_waits {m} {d} less fewer rests size clauses kept agree saved more) =
    let less' : suc m ≤ n' = omega arith in
    let fewer' : d ≤ c' = omega arith in
    one_waits less' fewer' rests size clauses kept agree saved more

waits_length : {T : Reading} {rows cl ats : List ℕ} {n c : ℕ} {es : List StackEntry} {os : List Obligation} →
    Waits T rows cl ats n c es os → length es ≡ length os
waits_length none_waits = refl
waits_length (one_waits less fewer rests size clauses kept agree saved more) = ap suc (waits_length more)

-- As many wait as entries stand below.
pub waits_count : {T : Reading} {rows cl ats : List ℕ} {m c : ℕ} {es : List StackEntry} {os : List Obligation} (stack : Stack)
    (n : ℕ) → down_from stack n ≡ es → Waits T rows cl ats m c es os → n ≡ length os
waits_count stack n down waits = sym (down_length stack n) ∙ ap length down ∙ waits_length waits
