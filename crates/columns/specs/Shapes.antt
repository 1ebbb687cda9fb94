-- The lines in shape, part by part: a key, then a number or a word of the table with its items, then the LF.
use Rattle.std.specs.Prelude.{ℕ, zero, suc, ◌<◌, ◌≡◌, refl, List, [], ◌∷◌, ◌++◌, true, eqb, length}
use Rattle.std.proofs.Common.{sym, ap, ◌∙◌, append_assoc, arith, eqb-true, eq-eqb}
use Rattle.std.proofs.Math.Option.{Option, none, some}
use Rattle.scope.specs.Logic.Facts.{Logic, plain, unit}
use Rattle.scope.specs.File.Bytes.{bytes}
use Rattle.scope.specs.File.Request.{Row}
use Rattle.scope.specs.File.Number.{number}
use Rattle.scope.specs.File.Line.{Line}
use Rattle.scope.specs.File.Kinds.{Kind, kind_in, items, spaced, kind_from, onto_numbers, numbers, row_of, kind_row, items_row, row_in, row_shape, logic_kinds, logic_text}
use Rattle.scope.specs.File.Text.{number_shape, logic_line}
use Rattle.scope.specs.Tools.Tests.{never, both_met, taken}
use Rattle.trip.specs.Numbers.{number_back}
use Rattle.trip.specs.File.{logic_shaped}
use Rattle.trip.specs.Cuts.{free, all_free, free_append, cut_there, cut_back, items_there, items_back, spaced_free, numeral_free}
use Rattle.trip.specs.Words.{Neat, neat_kind, word_there, word_found}
use Rattle.scope.specs.File.Column.{InShape}
use Rattle.columns.specs.Laws.{After}
use Rattle.columns.specs.NumberPart.{NumberThen}
use Rattle.columns.specs.RowPart.{Ended, Items, OfKind, InTable}

-- A line whose value is a number.
abbrev pub number_with : List ℕ → Line ℕ
number_with key = record { key = key; shape = number_shape }

pub number_parts : (key t : List ℕ) → InShape (number_with key) t → After key (NumberThen Ended) t
number_parts key t g =
    record {
      rest = g.value ++ 10 ∷ [];
      is = cut_back 10 t (key ++ g.value) [] g.ends ∙ append_assoc key g.value (10 ∷ []);
      holds =
          record {
            digits = g.value;
            value = g.thing;
            rest = 10 ∷ [];
            is = refl;
            reads = g.shaped;
            holds = record { rest = []; is = refl; holds = refl };
          };
    }

number_free : (b : ℕ) (v : List ℕ) (n : ℕ) → b < 48 → number v ≡ some n → free b v ≡ true
number_free b v n h e = rw (number_back v n e) (numeral_free b n h)

ended : (t : List ℕ) → Ended t → t ≡ 10 ∷ []
ended t a = cc (a.is, a.holds)

pub number_shape_lem : (key t : List ℕ) → free 10 key ≡ true → After key (NumberThen Ended) t → InShape (number_with key) t
number_shape_lem key t f a =
    let m = a.holds in
    let r : a.rest ≡ m.digits ++ 10 ∷ [] = m.is ∙ ap (λ u. m.digits ++ u) (ended m.rest m.holds) in
    let x : t ≡ key ++ m.digits ++ 10 ∷ [] = a.is ∙ ap (λ u. key ++ u) r ∙ sym (append_assoc key m.digits (10 ∷ [])) in
    let y = cut_there 10 (key ++ m.digits) [] (free_append 10 key m.digits f (number_free 10 m.digits m.value (omega arith) m.reads)) in
    record { value = m.digits; thing = m.value; ends = rw x y; shaped = m.reads }

-- A line whose value is a row of a table of kinds.
abbrev pub row_with : List ℕ → List Kind → Line Row
row_with key ks = record { key = key; shape = row_shape ks }

-- A line whose value is the word of a logic.
pub logic_parts : (t : List ℕ) → InShape logic_line t → After (bytes "logic=") (InTable logic_kinds) t
unfolding Items kind_in logic_kinds logic_text
logic_parts t g =
    record {
      rest = g.value ++ 10 ∷ [];
      is = cut_back 10 t (bytes "logic=" ++ g.value) [] g.ends ∙ append_assoc (bytes "logic=") g.value (10 ∷ []);
      holds = rw (logic_shaped.back g.value g.thing g.shaped) (word g.thing);
    }
  where
    word : (l : Logic) → InTable logic_kinds (logic_text l ++ 10 ∷ [])
    word plain =
        record { at = 0; known = omega arith; holds = record { rest = 10 ∷ []; is = refl; holds = record { rest = []; is = refl; holds = refl } } }
    word unit =
        record { at = 1; known = omega arith; holds = record { rest = 10 ∷ []; is = refl; holds = record { rest = []; is = refl; holds = refl } } }

pub logic_shape_lem : (t : List ℕ) → After (bytes "logic=") (InTable logic_kinds) t → InShape logic_line t
unfolding Items kind_in logic_kinds logic_text free
logic_shape_lem t a = go a.holds.at a.holds.known a.holds.holds
  where
    shaped : (l : Logic) (u : List ℕ) → a.rest ≡ logic_text l ++ u → Ended u → InShape logic_line t
    shaped l u e d =
        let x : t ≡ bytes "logic=" ++ logic_text l ++ 10 ∷ [] =
        a.is ∙ ap (λ r. bytes "logic=" ++ r) (e ∙ ap (λ r. logic_text l ++ r) (ended u d)) ∙ sym (append_assoc (bytes "logic=") (logic_text l) (10 ∷ [])) in
        let y = cut_there 10 (bytes "logic=" ++ logic_text l) [] (free_append 10 (bytes "logic=") (logic_text l) refl (logic_shaped.clean l tt)) in
        record { value = logic_text l; thing = l; ends = rw x y; shaped = logic_shaped.there l tt }

    go : (j : ℕ) → j < length logic_kinds → OfKind (kind_in logic_kinds j) a.rest → InShape logic_line t
    go zero h w = shaped plain w.rest w.is w.holds
    go (suc zero) h w = shaped unit w.rest w.is w.holds
    go (suc (suc j)) h w = absurd (omega arith)

record Onto (x : Option ℕ) (y : Option (List ℕ)) (ns : List ℕ) : Type 0 where
  first : ℕ
  others : List ℕ
  one : x ≡ some first
  more : y ≡ some others
  is : ns ≡ first ∷ others

onto : (x : Option ℕ) (y : Option (List ℕ)) (ns : List ℕ) → onto_numbers x y ≡ some ns → Onto x y ns
unfolding onto_numbers
onto none y ns e = never cc
onto (some m) none ns e = never cc
onto (some m) (some ms) ns e = record { first = m; others = ms; one = refl; more = refl; is = cc }

-- Items as the text has them.
items_parts :
    (ws : List (List ℕ)) (ns w : List ℕ) (n : ℕ) → numbers ws ≡ some ns → length ns ≡ n
    → After w (Items n) (spaced w ws ++ 10 ∷ [])
unfolding numbers spaced Items
items_parts [] ns w zero e h = record { rest = 10 ∷ []; is = refl; holds = record { rest = []; is = refl; holds = refl } }
items_parts [] ns w (suc n) e h =
    let z : ns ≡ [] = cc in
    let k : length {A = ℕ} [] ≡ suc n = rw z at h in
    absurd (omega (arith, k))
items_parts (v ∷ ws) ns w zero e h =
    let m = onto (number v) (numbers ws) ns e in
    let k : suc (length m.others) ≡ 0 = rw m.is at h in
    absurd (omega (arith, k))
items_parts (v ∷ ws) ns w (suc n) e h =
    let m = onto (number v) (numbers ws) ns e in
    let k : suc (length m.others) ≡ suc n = rw m.is at h in
    let i = items_parts ws m.others v n m.more (omega (arith, k)) in
    record {
      rest = 32 ∷ spaced v ws ++ 10 ∷ [];
      is = append_assoc w (32 ∷ spaced v ws) (10 ∷ []);
      holds =
          record {
            rest = spaced v ws ++ 10 ∷ [];
            is = refl;
            holds = record { digits = v; value = m.first; rest = i.rest; is = i.is; reads = m.one; holds = i.holds };
          };
    }

record Said (n : ℕ) (w t : List ℕ) : Type 0 where
  ws : List (List ℕ)
  ns : List ℕ
  is : t ≡ spaced w ws ++ 10 ∷ []
  reads : numbers ws ≡ some ns
  count : length ns ≡ n
  no_space : all_free 32 ws ≡ true
  no_end : all_free 10 ws ≡ true

said : (n : ℕ) (w u : List ℕ) → Items n u → Said n w (w ++ u)
unfolding numbers onto_numbers spaced Items all_free
said zero w u a =
    record { ws = []; ns = []; is = ap (λ t. w ++ t) (ended u a); reads = refl; count = refl; no_space = refl; no_end = refl }
said (suc n) w u a =
    let m = a.holds in
    let i = said n m.digits m.rest m.holds in
    let x : u ≡ 32 ∷ spaced m.digits i.ws ++ 10 ∷ [] = a.is ∙ ap (λ t. 32 ∷ t) (m.is ∙ i.is) in
    record {
      ws = m.digits ∷ i.ws;
      ns = m.value ∷ i.ns;
      is = ap (λ t. w ++ t) x ∙ sym (append_assoc w (32 ∷ spaced m.digits i.ws) (10 ∷ []));
      reads = rw (m.reads, i.reads) refl;
      count = ap suc i.count;
      no_space = both_met (free 32 m.digits) (all_free 32 i.ws) (number_free 32 m.digits m.value (omega arith) m.reads) i.no_space;
      no_end = both_met (free 10 m.digits) (all_free 10 i.ws) (number_free 10 m.digits m.value (omega arith) m.reads) i.no_end;
    }

record Rowed (ks : List Kind) (x : Option ℕ) (y : Option (List ℕ)) : Type 0 where
  k : ℕ
  ns : List ℕ
  found : x ≡ some k
  reads : y ≡ some ns
  count : length ns ≡ length (kind_in ks k).operands

rowed : (ks : List Kind) (x : Option ℕ) (y : Option (List ℕ)) (r : Row) → kind_row ks x y ≡ some r → Rowed ks x y
unfolding kind_row
rowed ks none y r e = never cc
rowed ks (some k) none r e = never cc
rowed ks (some k) (some ns) r e =
    let p = taken (eqb (length ns) (length (kind_in ks k).operands)) (some (row_of k ns)) r e in
    record { k = k; ns = ns; found = refl; reads = refl; count = eqb-true (length ns) (length (kind_in ks k).operands) p.0 }

value_parts : (ks : List Kind) (v : List ℕ) (r : Row) → row_in ks v ≡ some r → InTable ks (v ++ 10 ∷ [])
unfolding row_in items_row
value_parts ks v r e = go (items v) refl e
  where
    go : (l : List (List ℕ)) → items v ≡ l → items_row ks l ≡ some r → InTable ks (v ++ 10 ∷ [])
    go [] i q = never cc
    go (w ∷ ws) i q =
        let d = rowed ks (kind_from 0 ks w) (numbers ws) r q in
        let f = word_found ks w d.k d.found in
        let a = items_parts ws d.ns w (length (kind_in ks d.k).operands) d.reads d.count in
        let x = items_back v w ws i in
        record { at = d.k; known = f.below; holds = rw (x, ← f.word) a }

pub row_parts : (key : List ℕ) (ks : List Kind) (t : List ℕ) → InShape (row_with key ks) t → After key (InTable ks) t
row_parts key ks t g =
    record {
      rest = g.value ++ 10 ∷ [];
      is = cut_back 10 t (key ++ g.value) [] g.ends ∙ append_assoc key g.value (10 ∷ []);
      holds = value_parts ks g.value g.thing g.shaped;
    }

-- Words that are neat: no word twice, none with a space or an LF.
pub row_shape_lem : (key : List ℕ) (ks : List Kind) (t : List ℕ) → free 10 key ≡ true → Neat ks → After key (InTable ks) t → InShape (row_with key ks) t
unfolding row_in
row_shape_lem key ks t f n a =
    let j = a.holds.at in
    let w = (kind_in ks j).word in
    let n' = length (kind_in ks j).operands in
    let b = a.holds.holds in
    let d = said n' w b.rest b.holds in
    let c = neat_kind ks j n a.holds.known in
    let v = spaced w d.ws in
    let x : t ≡ key ++ v ++ 10 ∷ [] = a.is ∙ ap (λ u. key ++ u) (b.is ∙ d.is) ∙ sym (append_assoc key v (10 ∷ [])) in
    let y = cut_there 10 (key ++ v) [] (free_append 10 key v f (spaced_free 10 d.ws w refl c.no_end d.no_end)) in
    let i = items_there d.ws w c.no_space d.no_space in
    let k = word_there ks j n.apart a.holds.known in
    let z : row_in ks v ≡ some (row_of j d.ns) = rw (i, k, d.reads, eq-eqb (length d.ns) n' d.count) refl in
    record { value = v; thing = row_of j d.ns; ends = rw x y; shaped = z }
