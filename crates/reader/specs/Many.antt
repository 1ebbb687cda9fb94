-- Several lines one after the other: one turn of a loop over them, and the text that is left.
use Prim.Native.Nat.{ℕ, zero, suc, ◌-◌, ◌≤◌}
use Rattle.std.proofs.Common.{arith, sym, ◌∙◌, length-append, take-append-drop, drop_at, ltb-true, ltb-false}
use Rattle.std.specs.Prelude.{◌≡◌, Bool, true, false, ltb, take, drop}
use Rattle.std.proofs.Math.Path.{refl, ap}
use mathlib.Core.List.{List, [], ◌∷◌, ◌++◌, append_assoc, append-nil}
use Rattle.std.proofs.Math.ListN.{length}
use Rattle.scope.specs.Call.Answer.{Answer}
use Rattle.scope.specs.Tools.Tests.{never}
use Rattle.scope.specs.File.Line.{Line, Read, ok, bad, Reader, Cut, parts, uncut, cut, Value, val, out, valued, placed, line_of, line_stop, line, strip, and_then, ◌>>=◌, many, done}
use Rattle.lines.specs.Parts.{up_to, cut_found, cut_none, rest_of, line_rest}

-- Things read before those that a reading gives.
unfoldable pub onto : {A : Type 0} → List A → Read (List A) → Read (List A)
onto before (ok more rest) = ok (before ++ more) rest
onto before (bad z) = bad z

module _ {A : Type 0} (item : List A → Reader A) where
  pub many_more : (m : ℕ) (before : List A) (s rest : List ℕ) (a : A) → item before s ≡ ok a rest
      → onto before (many item (suc m) before s) ≡ onto (before ++ (a ∷ [])) (many item m (before ++ (a ∷ [])) rest)
  unfolding many ◌>>=◌ and_then onto
  many_more m before s rest a e = rw e (go (many item m (before ++ (a ∷ [])) rest))
    where
      go : (r : Read (List A)) → onto before (and_then r (λ more. done (a ∷ more))) ≡ onto (before ++ (a ∷ [])) r
      go (ok more t) = ap (λ l. ok l t) (sym (append_assoc before (a ∷ []) more))
      go (bad z) = refl

  pub many_stop : (m : ℕ) (before : List A) (s : List ℕ) (z : Answer) → item before s ≡ bad z → onto before (many item (suc m) before s) ≡ bad z
  unfolding many ◌>>=◌ and_then onto
  many_stop m before s z e = rw e refl

  pub many_end : (before : List A) (s : List ℕ) → onto before (many item zero before s) ≡ ok before s
  unfolding many onto
  many_end before s = ap (λ l. ok l s) (append-nil before)

  pub many_start : (n : ℕ) (s : List ℕ) → many item n [] s ≡ onto [] (many item n [] s)
  unfolding onto
  many_start n s = go (many item n [] s)
    where
      go : (r : Read (List A)) → r ≡ onto [] r
      go (ok more t) = refl
      go (bad z) = refl

  pub many_length : (n : ℕ) (before : List A) (s : List ℕ) (xs : List A) (rest : List ℕ) → many item n before s ≡ ok xs rest → length xs ≡ n
  unfolding many ◌>>=◌ and_then
  many_length zero before s xs rest e = let f : xs ≡ [] = cc in rw f refl
  many_length (suc n) before s xs rest e = go (λ b t ys u. many_length n b t ys u) (item before s) e
    where
      later : (a : A) (r : Read (List A)) → ((ys : List A) (t : List ℕ) → r ≡ ok ys t → length ys ≡ n) → and_then r (λ more. done (a ∷ more))
          ≡ ok xs rest → length xs ≡ suc n
      later a (ok ys t) f e = let g : xs ≡ a ∷ ys = cc in rw g (ap suc (f ys t refl))
      later a (bad z) f e = never cc

      go : ((b : List A) (t : List ℕ) (ys : List A) (u : List ℕ) → many item n b t ≡ ok ys u → length ys ≡ n) → (r : Read A)
          → and_then r (λ a. ◌>>=◌ (many item n (before ++ (a ∷ []))) (λ more. done (a ∷ more))) ≡ ok xs rest → length xs ≡ suc n
      go f (ok a t) e = later a (many item n (before ++ (a ∷ [])) t) (f (before ++ (a ∷ [])) t) e
      go f (bad z) e = never cc

-- What is left of a text stands at its end.
pub record Tail (rest s : List ℕ) : Type 0 where
  pub front : List ℕ
  pub is : s ≡ front ++ rest

pub tail_same : (s : List ℕ) → Tail s s
tail_same s = record { front = []; is = refl }

pub tail_none : (s : List ℕ) → Tail [] s
tail_none s = record { front = s; is = sym (append-nil s) }

pub tail_more : {a b c : List ℕ} → Tail a b → Tail b c → Tail a c
tail_more {a} t u = record { front = u.front ++ t.front; is = u.is ∙ rw t.is (sym (append_assoc u.front t.front a)) }

pub tail_length : (rest s : List ℕ) → Tail rest s → length rest ≤ length s
tail_length rest s t = omega (arith, ap length t.is, length-append t.front rest)

pub tail_drop : (rest s : List ℕ) → Tail rest s → drop (length s - length rest) s ≡ rest
tail_drop rest s t =
    let n : length t.front ≡ length s - length rest = omega (arith, ap length t.is, length-append t.front rest) in
    ap (λ x. drop (length s - length rest) x) t.is ∙ drop_at t.front rest (length s - length rest) n

pub rest_tail : (s : List ℕ) → Tail (rest_of s) s
unfolding rest_of line_rest
rest_tail s = go (ltb (up_to 10 s) (length s)) refl
  where
    go : (b : Bool) → ltb (up_to 10 s) (length s) ≡ b → Tail (line_rest (cut 10 s)) s
    go true e =
        rw (cut_found 10 s (ltb-true (up_to 10 s) (length s) e))
        (record { front = take (suc (up_to 10 s)) s; is = sym (take-append-drop (suc (up_to 10 s)) s) })
    go false e = rw (cut_none 10 s (ltb-false (up_to 10 s) (length s) e)) (tail_none s)

pub record Ends {A : Type 0} (m : Reader A) : Type 0 where
  pub ends : (s : List ℕ) (a : A) (rest : List ℕ) → m s ≡ ok a rest → Tail rest s

pub done_ends : {A : Type 0} (a : A) → Ends (done a)
done_ends a = record { ends = λ s b rest e. let f : s ≡ rest = cc in rw f (tail_same rest) }

pub line_ends : {A : Type 0} (l : Line A) (refusal : A → ℕ) (i : ℕ) → Ends (line l refusal i)
unfolding line line_of placed rest_of line_rest
line_ends {A} l refusal i = record { ends = λ s a rest e. go s a rest (suc (line_stop l s)) (cut 10 s) refl e }
  where
    last : (s : List ℕ) (a : A) (rest r : List ℕ) (n : ℕ) (v : Value A) → placed i n v r ≡ ok a rest → r ≡ rest_of s → Tail rest s
    last s a rest r n (val b) e f = let g : rest ≡ rest_of s = cc in rw g (rest_tail s)
    last s a rest r n (out k) e f = never cc

    go : (s : List ℕ) (a : A) (rest : List ℕ) (n : ℕ) (c : Cut) → cut 10 s ≡ c → line_of l refusal i n c ≡ ok a rest → Tail rest s
    go s a rest n uncut f e = never cc
    go s a rest n (parts t r) f e = last s a rest r n (valued l refusal (strip l.key t)) e (rw f refl)

pub seq_ends : {A B : Type 0} (m : Reader A) (f : A → Reader B) → Ends m → ((a : A) → Ends (f a)) → Ends (◌>>=◌ m f)
unfolding ◌>>=◌ and_then
seq_ends {A} {B} m f p q = record { ends = λ s b rest e. go s b rest (m s) refl e }
  where
    go : (s : List ℕ) (b : B) (rest : List ℕ) (r : Read A) → m s ≡ r → and_then r f ≡ ok b rest → Tail rest s
    go s b rest (ok a t) g e = tail_more ((q a).ends t b rest e) (p.ends s a t g)
    go s b rest (bad z) g e = never cc

pub many_ends : {A : Type 0} (item : List A → Reader A) (n : ℕ) (before : List A) → ((b : List A) → Ends (item b)) → Ends (many item n before)
unfolding many
many_ends item zero before p = done_ends []
many_ends item (suc n) before p =
    seq_ends (item before) (λ a. ◌>>=◌ (many item n (before ++ (a ∷ []))) (λ more. done (a ∷ more))) (p before)
    (λ a. seq_ends (many item n (before ++ (a ∷ []))) (λ more. done (a ∷ more)) (many_ends item n (before ++ (a ∷ [])) p)
    (λ more. done_ends (a ∷ more)))
