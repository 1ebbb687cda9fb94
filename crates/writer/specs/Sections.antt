-- The text of a request section by section, and a section one line more.
use Rattle.std.specs.Prelude.{ℕ, ◌+◌, ◌*◌, ◌≤◌, ◌<◌, ◌≡◌, refl, List, [], ◌∷◌, ◌++◌, take, drop}
use Rattle.std.proofs.Common.{add-one, arith, ap, sym, ◌∙◌, append_assoc, append-nil, ne_eqb}
use Rattle.scope.specs.Logic.Facts.{Logic}
use Rattle.scope.specs.File.Bytes.{joined}
use Rattle.scope.specs.File.Line.{Line, line_text, many_text, counted_text}
use Rattle.scope.specs.File.Text.{version_line, logic_line, logic_lines, principals_line, atoms_line, formulas_line, form_line, clauses_line, clause_line, goal_line, steps_line, step_line, body_text, request_text}
use Rattle.scope.specs.Call.Tables.{Lent, Entry, unpack, form_entry, policy_entry, step_entry, request_of}
use Rattle.classes.specs.Rows.{unpack_turn, unpack_length}
use Rattle.writer.specs.declared.output.Output.{Output}
use Rattle.writer.specs.Wrote.{Wrote, wrote_then, wrote_same}

-- The lines of the first n things of a table.
abbrev pub table_text : {A : Type 0} → Line A → Entry A → ℕ → List ℕ → List ℕ
table_text l e n t = many_text (line_text l) (unpack e n t)

unfoldable pub version_text : ℕ → Logic → List ℕ
version_text version logic = line_text version_line version ++ logic_lines version logic

unfoldable pub head_text : ℕ → Logic → ℕ → ℕ → List ℕ
head_text version logic principals atoms = (version_text version logic ++ line_text principals_line principals) ++ line_text atoms_line atoms

unfoldable pub formulas_text : ℕ → List ℕ → List ℕ
formulas_text n t = line_text formulas_line n ++ table_text form_line form_entry n t

unfoldable pub policy_text : ℕ → List ℕ → List ℕ
policy_text n t = line_text clauses_line n ++ table_text clause_line policy_entry n t

unfoldable pub proof_text : ℕ → ℕ → List ℕ → List ℕ
proof_text goal n t = (line_text goal_line goal ++ line_text steps_line n) ++ table_text step_line step_entry n t

pub with_logic : (version : ℕ) (logic : Logic) → version ≡ 2 → line_text version_line version ++ line_text logic_line logic ≡ version_text version logic
unfolding version_text logic_lines
with_logic version logic e = rw e refl

pub without_logic : (version : ℕ) (logic : Logic) → (version ≡ 2 → ⊥) → line_text version_line version ≡ version_text version logic
unfolding version_text logic_lines
without_logic version logic h = rw (ne_eqb version 2 h) (sym (append-nil (line_text version_line version)))

many_more : {A : Type 0} (text : A → List ℕ) (xs : List A) (x : A) → many_text text (xs ++ (x ∷ [])) ≡ many_text text xs ++ text x
unfolding many_text joined
many_more text [] x = append-nil (text x)
many_more text (y ∷ xs) x = ap (λ (l : List ℕ). text y ++ l) (many_more text xs x) ∙ sym (append_assoc (text y) (many_text text xs) (text x))

-- Behind what stands first, the lines of the first i of n things are put, each of w bytes at the most.
pub record LinesPut {A : Type 0} (l : Line A) (e : Entry A) (first : List ℕ) (v w n : ℕ) (t : List ℕ) (a : Output) (i : ℕ) (z : Output) : Type 0 where
  pub most : i ≤ n
  pub put : Wrote a (first ++ table_text l e i t) (v + w * i) z

pub lines_none : {A : Type 0} {l : Line A} {e : Entry A} {first : List ℕ} {v w n : ℕ} {t : List ℕ} {a z : Output} →
    Wrote a first v z → LinesPut l e first v w n t a 0 z
unfolding many_text joined unpack
lines_none {first = first} p = record { most = omega arith; put = wrote_same (sym (append-nil first)) (omega arith) p }

-- One line more behind the first i.
pub lines_more : {A : Type 0} {l : Line A} {e : Entry A} {first : List ℕ} {v w n : ℕ} {t : List ℕ} {a : Output} {i : ℕ} {x : A} {m z : Output} →
    LinesPut l e first v w n t a i m → i < n → e.get (take e.width (drop (e.width * i) t)) ≡ x → Wrote m (line_text l x) w z →
    LinesPut l e first v w n t a (i + 1) z
lines_more {A} {l} {e} {first} {v} {w} {n} {t} {a} {i} p h same q =
    record {
      most = omega arith;
      put =
          wrote_same
          (append_assoc first (table_text l e i t) (line_text l _) ∙
          ap (λ (s : List ℕ). first ++ s)
          (sym
          (ap (λ (k : ℕ). table_text l e k t) (add-one i) ∙
          ap (many_text (line_text l)) (unpack_turn e i t) ∙
          many_more (line_text l) (unpack e i t) (e.get (take e.width (drop (e.width * i) t))) ∙
          ap (λ (y : A). table_text l e i t ++ line_text l y) same)))
          (omega arith)
          (wrote_then p.put q);
    }

pub lines_all : {A : Type 0} {l : Line A} {e : Entry A} {first : List ℕ} {v w n : ℕ} {t : List ℕ} {a : Output} {i : ℕ} {z : Output} →
    LinesPut l e first v w n t a i z → n ≤ i → Wrote a (first ++ table_text l e n t) (v + w * n) z
lines_all {A} {l} {e} {first} {v} {w} {n} {t} {a} {i} p h =
    let same : i ≡ n = omega arith in
    rw same at p.put

counted_same : {A : Type 0} (l : Line ℕ) (item : Line A) (e : Entry A) (n : ℕ) (t : List ℕ) →
    counted_text l item (unpack e n t) ≡ line_text l n ++ table_text item e n t
unfolding counted_text
counted_same l item e n t = ap (λ (k : ℕ). line_text l k ++ table_text item e n t) (unpack_length e n t)

regroup : (v i p a f c g s z : List ℕ) →
    ((((((v ++ i) ++ p) ++ a) ++ f) ++ c) ++ ((g ++ s) ++ z)) ≡ v ++ (i ++ (p ++ (a ++ (f ++ (c ++ (g ++ ((s ++ z) ++ [])))))))
regroup v i p a f c g s z = simp (append_assoc, append-nil)

as_joined : (t : Lent) →
    request_text (request_of t) ≡
    line_text version_line t.version ++
    (logic_lines t.version t.logic ++
    joined
    (line_text principals_line t.principals ∷
    line_text atoms_line t.atoms ∷
    counted_text formulas_line form_line (unpack form_entry t.formulas t.form_table) ∷
    counted_text clauses_line clause_line (unpack policy_entry t.policy t.policy_table) ∷
    line_text goal_line t.goal ∷
    counted_text steps_line step_line (unpack step_entry t.steps t.step_table) ∷
    []))
unfolding request_text body_text request_of
as_joined t = refl

-- The text of what counts and tables say is its four sections.
pub request_text_lem : (t : Lent) →
    ((head_text t.version t.logic t.principals t.atoms ++ formulas_text t.formulas t.form_table) ++
    policy_text t.policy t.policy_table) ++
    proof_text t.goal t.steps t.step_table ≡
    request_text (request_of t)
unfolding version_text head_text formulas_text policy_text proof_text joined
request_text_lem t =
    let v = line_text version_line t.version in
    let i = logic_lines t.version t.logic in
    let p = line_text principals_line t.principals in
    let a = line_text atoms_line t.atoms in
    let f = counted_text formulas_line form_line (unpack form_entry t.formulas t.form_table) in
    let c = counted_text clauses_line clause_line (unpack policy_entry t.policy t.policy_table) in
    let g = line_text goal_line t.goal in
    let n = line_text steps_line t.steps in
    let z = table_text step_line step_entry t.steps t.step_table in
    ap (λ (l : List ℕ). (((((v ++ i) ++ p) ++ a) ++ l) ++ policy_text t.policy t.policy_table) ++ ((g ++ n) ++ z))
    (sym (counted_same formulas_line form_line form_entry t.formulas t.form_table)) ∙
    ap (λ (l : List ℕ). (((((v ++ i) ++ p) ++ a) ++ f) ++ l) ++ ((g ++ n) ++ z)) (sym (counted_same clauses_line clause_line policy_entry t.policy t.policy_table)) ∙
    regroup v i p a f c g n z ∙
    ap (λ (l : List ℕ). v ++ (i ++ (p ++ (a ++ (f ++ (c ++ (g ++ (l ++ []))))))))
    (sym (counted_same steps_line step_line step_entry t.steps t.step_table)) ∙
    sym (as_joined t)
