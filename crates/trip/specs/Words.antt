-- The words of a table of kinds: each kind's word finds it and no other. One law for formulas and steps.
use Rattle.std.specs.Prelude.{ℕ, zero, suc, ◌+◌, ◌<◌, ◌≤◌, ◌≡◌, refl, List, [], ◌∷◌, Bool, true, false, cond, not, eqb, leb, length}
use Rattle.std.proofs.Common.{ap, ◌∙◌, arith, eqb-true, eq-eqb, leb-true}
use Rattle.std.proofs.Math.Option.{some}
use Rattle.std.proofs.lemmas.Bool.{not-true}
use Rattle.scope.specs.Logic.Form.{both}
use Rattle.scope.specs.File.Kinds.{Kind, kind_in, same, kind_from, form_kinds, step_kinds, logic_kinds}
use Rattle.scope.specs.Tools.Tests.{never, both_true, both_met}
use Rattle.trip.specs.Cuts.{free}

same_is : (s t : List ℕ) → same s t ≡ true → s ≡ t
unfolding same
same_is [] [] e = refl
same_is [] (b ∷ t) e = never cc
same_is (a ∷ s) [] e = never cc
same_is (a ∷ s) (b ∷ t) e =
    let p = both_true (eqb a b) (same s t) e in
    cc (eqb-true a b p.0, same_is s t p.1)

same_self : (s : List ℕ) → same s s ≡ true
unfolding same
same_self [] = refl
same_self (a ∷ s) = both_met (eqb a a) (same s s) (eq-eqb a a refl) (same_self s)

-- No kind of a table has a word that an earlier one has.
unfoldable pub unlike : List ℕ → List Kind → Bool
unfolding both same
unlike w [] = true
unlike w (c ∷ cs) = both (not (same w c.word)) (unlike w cs)

unfoldable pub apart : List Kind → Bool
unfolding both unlike
apart [] = true
apart (c ∷ cs) = both (unlike c.word cs) (apart cs)

unlike_at : (w : List ℕ) (cs : List Kind) (j : ℕ) → unlike w cs ≡ true → j < length cs → same w (kind_in cs j).word ≡ false
unfolding unlike kind_in
unlike_at w [] j e h = absurd (omega arith)
unlike_at w (c ∷ cs) zero e h = not-true (same w c.word) (both_true (not (same w c.word)) (unlike w cs) e).0
unlike_at w (c ∷ cs) (suc j) e h = unlike_at w cs j (both_true (not (same w c.word)) (unlike w cs) e).1 (omega arith)

word_from : (cs : List Kind) (k j : ℕ) → apart cs ≡ true → j < length cs → kind_from k cs (kind_in cs j).word ≡ some (k + j)
unfolding apart kind_from kind_in
word_from [] k j e h = absurd (omega arith)
word_from (c ∷ cs) k zero e h = rw (same_self c.word) (ap (λ n. some n) (omega arith))
word_from (c ∷ cs) k (suc j) e h =
    let p = both_true (unlike c.word cs) (apart cs) e in
    let l : j < length cs = omega arith in
    let u : same c.word (kind_in cs j).word ≡ false = unlike_at c.word cs j p.0 l in
    rw u (word_from cs (suc k) j p.1 l ∙ ap (λ n. some n) (omega arith))

pub word_there : (cs : List Kind) (j : ℕ) → apart cs ≡ true → j < length cs → kind_from 0 cs (kind_in cs j).word ≡ some j
word_there cs j e h = word_from cs 0 j e h ∙ ap (λ n. some n) (omega arith)

pub record Found (cs : List Kind) (w : List ℕ) (k n : ℕ) : Type 0 where
  pub at : ℕ
  pub number : n ≡ k + at
  pub known : at < length cs
  pub word : w ≡ (kind_in cs at).word

word_back : (cs : List Kind) (w : List ℕ) (k n : ℕ) → kind_from k cs w ≡ some n → Found cs w k n
unfolding kind_from kind_in
word_back [] w k n e = never cc
word_back (c ∷ cs) w k n e = go (same c.word w) refl e (λ q. word_back cs w (suc k) n q)
  where
    go :
        (t : Bool) → same c.word w ≡ t → cond t (some k) (kind_from (suc k) cs w) ≡ some n
        → (kind_from (suc k) cs w ≡ some n → Found cs w (suc k) n) → Found (c ∷ cs) w k n
    go true s q ih =
        let m : k ≡ n = cc in
        let i = same_is c.word w s in
        record { at = 0; number = omega arith; known = omega arith; word = cc }
    go false s q ih =
        let f = ih q in
        record { at = suc f.at; number = omega arith; known = omega arith; word = f.word }

pub record Known (cs : List Kind) (w : List ℕ) (n : ℕ) : Type 0 where
  pub below : n < length cs
  pub word : w ≡ (kind_in cs n).word

pub word_found : (cs : List Kind) (w : List ℕ) (n : ℕ) → kind_from 0 cs w ≡ some n → Known cs w n
word_found cs w n e =
    let f = word_back cs w 0 n e in
    let q : n ≡ f.at = omega arith in
    record { below = omega arith; word = rw q f.word }

-- A test that every kind of a table passes.
unfoldable pub every_kind : (Kind → Bool) → List Kind → Bool
unfolding both
every_kind test [] = true
every_kind test (c ∷ cs) = both (test c) (every_kind test cs)

pub every_at : (test : Kind → Bool) (cs : List Kind) (j : ℕ) → every_kind test cs ≡ true → j < length cs → test (kind_in cs j) ≡ true
unfolding every_kind kind_in
every_at test [] j e h = absurd (omega arith)
every_at test (c ∷ cs) zero e h = (both_true (test c) (every_kind test cs) e).0
every_at test (c ∷ cs) (suc j) e h = every_at test cs j (both_true (test c) (every_kind test cs) e).1 (omega arith)

-- A word has neither space nor LF, and a kind at most two operands.
unfoldable pub neat : Kind → Bool
unfolding both free
neat c = both (free 32 c.word) (both (free 10 c.word) (leb (length c.operands) 2))

-- What the laws of rows ask of a table of kinds.
pub record Neat (cs : List Kind) : Type 0 where
  pub apart : apart cs ≡ true
  pub each : every_kind neat cs ≡ true

pub record NeatKind (c : Kind) : Type 0 where
  pub no_space : free 32 c.word ≡ true
  pub no_end : free 10 c.word ≡ true
  pub few : length c.operands ≤ 2

pub neat_kind : (cs : List Kind) (j : ℕ) → Neat cs → j < length cs → NeatKind (kind_in cs j)
unfolding neat
neat_kind cs j n h =
    let c = kind_in cs j in
    let p = both_true (free 32 c.word) (both (free 10 c.word) (leb (length c.operands) 2)) (every_at neat cs j n.each h) in
    let q = both_true (free 10 c.word) (leb (length c.operands) 2) p.1 in
    record { no_space = p.0; no_end = q.0; few = leb-true (length c.operands) 2 q.1 }

pub form_kinds_neat : Neat form_kinds
unfolding apart every_kind neat form_kinds
form_kinds_neat = record { apart = refl; each = refl }

pub step_kinds_neat : Neat step_kinds
unfolding apart every_kind neat step_kinds
step_kinds_neat = record { apart = refl; each = refl }

pub logic_kinds_neat : Neat logic_kinds
unfolding apart every_kind neat logic_kinds
logic_kinds_neat = record { apart = refl; each = refl }
