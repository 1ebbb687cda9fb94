-- What a move makes of the tables, for the current obligation: `moved_at`. From it, for any move: `moved_alone`, where one entry stands in the
-- current one's place, `moved_fork`, where one more is open and the lower one waits with the saved rows, and `moved_close`, where the next
-- one below is current and its saved rows are put back.
use Prim.Native.Nat.{ℕ, zero, suc, ◌+◌, ◌-◌, ◌*◌, ◌<◌, ◌≤◌}
use Rattle.std.specs.Prelude.{◌≡◌, Bool, get_or}
use Rattle.std.proofs.Math.Path.{refl, sym}
use Rattle.std.proofs.Common.{ap, ◌∙◌, le-leb, get_or-set_other}
use mathlib.Core.List.{List, [], ◌∷◌, ◌++◌}
use native.Mathlib.Omega.{arith}
use Rattle.std.proofs.Math.Numerals.{add-one}
use Rattle.std.proofs.lemmas.Bool.{lt-leb}
use Rattle.std.proofs.Math.ListN.{length, set, length-set}
use Rattle.std.proofs.Math.Seq.{get_or-set_same}
use Rattle.scope.specs.Logic.Facts.{Fact}
use Rattle.scope.specs.Limits.{most_principals, most_open, most_chunks}
use Rattle.scope.specs.Logic.Obligation.{Lab, Sequent, Phase, Obligation, ob}
use Rattle.scope.specs.Tools.Tests.{never}
use Rattle.facts.specs.Rows.{sf_rows, put_sf}
use Rattle.facts.specs.Kept.{Kept, sf_length, agree_self, agree_put, kept_back}
use Rattle.moves.specs.declared.Phase as D
use Rattle.moves.specs.declared.Move as M
use Rattle.moves.specs.declared.Move.TheVariants as move
use Rattle.moves.specs.Steps.{pick}
use Rattle.machine.specs.declared.Obligation as E
use Rattle.machine.specs.Change.{chunk_count, goal_in, change_of}
use Rattle.machine.specs.Tables.{block, put_block, top_chunk, chunks_after, saved_after, rows_after}
use Rattle.machine.specs.Machine.{Stack, nothing, obligation_at, moved}
use Rattle.walks.specs.Trees.{Reading, unit_of}
use Rattle.walks.specs.Blocks.{block_length, block_put, put_length, same_self, same_put}
use Rattle.machine.specs.Turn.{state_of}
use Rattle.walks.specs.Related.{StackEntry, head_of, entry, entry_at, down_from, Rests, at_goal_lem, at_chunks, Stands, at_rest, Clauses}
use Rattle.walks.specs.Related.{sheet_of, seq, Waits, none_waits, one_waits, met_in, Standing, Related, all_closed, now_open}
use Rattle.walks.specs.Views.{entry_is, head_is, saved_is, entry_under, down_under, under_two}
use Rattle.walks.specs.Views.{clauses_set, waits_set, waits_rows}
use Rattle.walks.specs.Chunks.{one_less, Wrote}

-- The saved rows: one more is written where one more is open.
abbrev pub saved_now : List ℕ → Stack → ℕ → M.Move → E.Obligation → List ℕ
saved_now rows stack n mv o = saved_after (suc n) (change_of mv o (suc n)).opened rows o.worlds stack.saved

saved_kept : (opened more : ℕ) (rows : List ℕ) (w : ℕ) (saved : List ℕ) → more ≤ opened → saved_after opened more rows w saved ≡ saved
unfolding saved_after pick
saved_kept opened more rows w saved h = rw (le-leb more opened h) refl

saved_more : (n : ℕ) (rows : List ℕ) (m : ℕ) (saved : List ℕ) →
    saved_after (suc n) (suc n + 1) rows (suc m) saved ≡ put_block most_principals saved n (sf_rows rows m)
unfolding saved_after pick
saved_more n rows m saved =
    let more : suc n < suc n + 1 = omega arith in
    rw (lt-leb (suc n + 1) (suc n) more) (ap (λ (k : ℕ). put_block most_principals saved k (sf_rows rows (suc m - 1))) (one_less n) ∙
    ap (λ (k : ℕ). put_block most_principals saved n (sf_rows rows k)) (one_less m))

pub moved_at : (unit : Bool) (rows : List ℕ) (stack : Stack) (n : ℕ) (cl ats : List ℕ) (mv : M.Move) (o : E.Obligation) →
    get_or stack.obligations n nothing ≡ o →
    moved unit (state_of rows stack (suc n) cl ats) mv ≡
    state_of (rows_after unit mv o (get_or stack.obligations (suc n - 2) nothing) (block most_principals (saved_now rows stack n mv o) (suc n - 2)) rows)
    (record {
      obligations = set (set stack.obligations (suc n) (change_of mv o (suc n)).upper) n (change_of mv o (suc n)).lower;
      chunks = chunks_after mv (chunk_count o.phase) n stack.chunks;
      saved = saved_now rows stack n mv o;
    })
    (change_of mv o (suc n)).opened (set cl o.clauses (top_chunk stack.chunks n o.phase))
    (set ats o.clauses (goal_in o.phase).at.0)
unfolding moved obligation_at
moved_at unit rows stack n cl ats mv o top =
    let h : get_or stack.obligations (suc n - 1) nothing ≡ o = rw (one_less n) top in
    rw (h, one_less n) refl

module _ {T : Reading} {rows cl ats ch sv : List ℕ} {stack : Stack} {es : List StackEntry} {n m c : ℕ} {ph : D.Phase} {fs : List Fact}
    {ls : List Lab} (frame : Standing T rows stack n cl ats ph m c ch sv fs ls) (down : down_from stack n ≡ es) where
  abbrev pub top_now : ℕ
  top_now = top_chunk stack.chunks n ph

  abbrev pub cl_now : List ℕ
  cl_now = set cl c top_now

  abbrev pub ats_now : List ℕ
  ats_now = set ats c (goal_in ph).at.0

  abbrev now : E.Obligation
  now = head_of ph (suc m) c

  pub moved_alone : (mv : M.Move) {rows' l' : List ℕ} {ph' : D.Phase} {m' c' : ℕ} {ch' : List ℕ} {fs' : List Fact} {ls' : List Lab}
      {p' : Phase} {waiting : List Obligation} →
      change_of mv now (suc n) ≡
      record { lower = head_of ph' (suc m') c'; upper = head_of ph' (suc m') c'; opened = suc n } →
      chunks_after mv (chunk_count ph) n stack.chunks ≡ l' → Wrote n stack.chunks l' ch' →
      ((next : E.Obligation) (kept : List ℕ) → rows_after (unit_of T) mv now next kept rows ≡ rows') →
      Clauses T cl_now ats_now c' ls' → Kept (sheet_of T (suc m')) fs' rows' →
      Stands T (suc m') ch' ph' p' →
      Waits T rows' cl_now ats_now (suc m') c' es (met_in (seq T (suc m') fs' ls') p' ++ waiting) →
      Related T (moved (unit_of T) (state_of rows stack (suc n) cl ats) mv) (ob (seq T (suc m') fs' ls') p' ∷ waiting)
  moved_alone mv {l'} {ph'} {m'} {c'} {ch'} change chunks wrote after clauses kept stands waits =
      let o : E.Obligation = head_of ph' (suc m') c' in
      let os : List E.Obligation = stack.obligations in
      let st : Stack = record { obligations = set (set os (suc n) o) n o; chunks = l'; saved = stack.saved } in
      let long : n < length (set os (suc n) o) = rw length-set (omega (arith, frame.stack_size.obligations, frame.room)) in
      let low : suc n ≤ suc n = omega arith in
      rw (
        moved_at (unit_of T) rows stack n cl ats mv now (head_is stack n frame.on_top_lem),
        change,
        after,
        chunks,
        saved_kept (suc n) (suc n) rows (suc m) stack.saved low,
      )
      (now_open {stack = st}
      (record {
        stack_size =
            record {
              obligations = length-set (set os (suc n) o) n o ∙ length-set os (suc n) o ∙ frame.stack_size.obligations;
              chunks = wrote.size;
              saved = frame.stack_size.saved;
            };
        cl_size = length-set cl c top_now ∙ frame.cl_size;
        ats_size = length-set ats c (goal_in ph).at.0 ∙ frame.ats_size;
        room = frame.room;
        on_top_lem = entry_is st n (get_or-set_same (set os (suc n) o) n o nothing long) wrote.here (saved_is stack n frame.on_top_lem);
        chunk_size = sym (ap length wrote.here) ∙ block_length most_chunks l' n;
        clauses = clauses;
        kept = kept;
      })
      (down_under n (omega arith) (under_two stack n o o wrote.below (same_self most_principals n stack.saved)) ∙ down)
      stands waits)

  pub moved_fork : (mv : M.Move) {l' : List ℕ} {phu phl : D.Phase} {chu chl : List ℕ} {pu pl : Phase} {waiting os : List Obligation} →
      change_of mv now (suc n) ≡
      record { lower = head_of phl (suc m) c; upper = head_of phu (suc m) c; opened = suc n + 1 } →
      chunks_after mv (chunk_count ph) n stack.chunks ≡ l' → Wrote n stack.chunks l' chl → block most_chunks l' (suc n) ≡ chu →
      ((next : E.Obligation) (kept : List ℕ) → rows_after (unit_of T) mv now next kept rows ≡ rows) →
      suc n < most_open → Stands T (suc m) chu phu pu → Rests T (suc m) chl phl pl →
      Waits T rows cl ats (suc m) c es os → met_in (seq T (suc m) fs ls) pu ++ waiting ≡ ob (seq T (suc m) fs ls) pl ∷ os →
      Related T (moved (unit_of T) (state_of rows stack (suc n) cl ats) mv) (ob (seq T (suc m) fs ls) pu ∷ waiting)
  unfolding down_from
  moved_fork mv {l'} {phu} {phl} {chu} {chl} {pu} {pl} {waiting} {os} change chunks wrote above after room stands rests waits split =
      let upper : E.Obligation = head_of phu (suc m) c in
      let lower : E.Obligation = head_of phl (suc m) c in
      let obs : List E.Obligation = stack.obligations in
      let kept : List ℕ = sf_rows rows m in
      let sv' : List ℕ = put_block most_principals stack.saved n kept in
      let st : Stack = record { obligations = set (set obs (suc n) upper) n lower; chunks = l'; saved = sv' } in
      let long : suc n < length obs = omega (arith, frame.stack_size.obligations) in
      let long' : n < length (set obs (suc n) upper) = rw length-set (omega (arith, frame.stack_size.obligations)) in
      let other : suc n ≡ n → ⊥ = λ q. omega arith in
      let low : c ≤ c = omega arith in
      let same : suc m ≤ suc m = omega arith in
      let within : n * most_principals + most_principals ≤ length stack.saved = omega (arith, frame.stack_size.saved) in
      let under = under_two stack n upper lower wrote.below (same_put most_principals n kept (omega arith) (same_self most_principals n stack.saved)) in
      let waiter : entry_at st n ≡ entry phl (suc m) c chl kept =
      entry_is st n (get_or-set_same (set obs (suc n) upper) n lower nothing long') wrote.here
      (block_put most_principals stack.saved n kept (sf_length rows m) within) in
      let below : down_from st (suc n) ≡ entry phl (suc m) c chl kept ∷ es =
      rw (waiter, down_under n (omega arith) under, down) refl in
      let wait : Waits T rows cl_now ats_now (suc m) c (entry phl (suc m) c chl kept ∷ es) (met_in (seq T (suc m) fs ls) pu ++ waiting) =
      rw split
      (one_waits {r = rows} same low rests (sym (ap length wrote.here) ∙ block_length most_chunks l' n)
      (clauses_set c top_now (goal_in ph).at.0 low frame.clauses) frame.kept (agree_self (suc m) rows) refl
      (waits_set c top_now (goal_in ph).at.0 low waits)) in
      rw (
        moved_at (unit_of T) rows stack n cl ats mv now (head_is stack n frame.on_top_lem),
        change,
        after,
        chunks,
        saved_more n rows m stack.saved,
        add-one,
      )
      (now_open {stack = st} {es = entry phl (suc m) c chl kept ∷ es}
      (record {
        stack_size =
            record {
              obligations = length-set (set obs (suc n) upper) n lower ∙ length-set obs (suc n) upper ∙ frame.stack_size.obligations;
              chunks = wrote.size;
              saved = put_length most_principals stack.saved n kept ∙ frame.stack_size.saved;
            };
        cl_size = length-set cl c top_now ∙ frame.cl_size;
        ats_size = length-set ats c (goal_in ph).at.0 ∙ frame.ats_size;
        room = room;
        on_top_lem =
            entry_is st (suc n)
            (get_or-set_other (set obs (suc n) upper) n (suc n) lower nothing other ∙ get_or-set_same obs (suc n) upper nothing long) above
            refl;
        chunk_size = sym (ap length above) ∙ block_length most_chunks l' (suc n);
        clauses = clauses_set c top_now (goal_in ph).at.0 low frame.clauses;
        kept = frame.kept;
      })
      below stands wait)

-- An obligation that is not in focus has met no subgoal.
pub rests_met : {T : Reading} {n : ℕ} {ch : List ℕ} {ph : D.Phase} {p : Phase} (s : Sequent) → Rests T n ch ph p → met_in s p ≡ []
unfolding met_in
rests_met s (at_goal_lem f u) = refl
rests_met s (at_chunks f u m b) = refl

two_less : (n : ℕ) → suc (suc n) - 2 ≡ n
two_less n = omega arith

pub moved_close : {T : Reading} {rows cl ats ch sv : List ℕ} {stack : Stack} {es : List StackEntry} {n m c : ℕ} {ph : D.Phase}
    {fs : List Fact} {ls : List Lab} {os : List Obligation} →
    Standing T rows stack n cl ats ph m c ch sv fs ls → down_from stack n ≡ es → Waits T rows cl ats (suc m) c es os →
    Related T (moved (unit_of T) (state_of rows stack (suc n) cl ats) move.Close) os
unfolding down_from change_of rows_after chunks_after
moved_close {T} {rows} {cl} {ats} {ch} {sv} {stack} {n = zero} {m} {c} {ph} frame down none_waits =
    rw (moved_at (unit_of T) rows stack 0 cl ats move.Close (head_of ph (suc m) c) (head_is stack 0 frame.on_top_lem)) all_closed
moved_close {n = suc n} frame down none_waits = never cc
moved_close {n = zero} frame down (one_waits less fewer rests size clauses kept agree saved more) = never cc
moved_close {T} {rows} {cl} {ats} {ch} {sv} {stack} {n = suc n} {m} {c} {ph} frame down
    (one_waits {m = i} {d} {ph = ph'} {ch = ch'} {sv = sv'} {r} {es} {fs = fs'} {ls = ls'} {p} {os} less fewer rests size clauses kept
    agree saved more) =
    let top : entry_at stack n ≡ entry ph' (suc i) d ch' sv' = cc in
    let rest : down_from stack n ≡ es = cc in
    let o : E.Obligation = head_of ph (suc m) c in
    let obs : List E.Obligation = stack.obligations in
    let st : Stack =
    record { obligations = set (set obs (suc (suc n)) o) (suc n) o; chunks = stack.chunks; saved = stack.saved } in
    let x : ℕ = top_chunk stack.chunks (suc n) ph in
    let y : ℕ = (goal_in ph).at.0 in
    let same : suc i ≤ suc i = omega arith in
    let fall : suc (suc n) - 1 ≤ suc (suc n) = omega arith in
    let keep = saved_kept (suc (suc n)) (suc (suc n) - 1) rows (suc m) stack.saved fall in
    let next : get_or obs (suc (suc n) - 2) nothing ≡ head_of ph' (suc i) d =
    ap (λ (k : ℕ). get_or obs k nothing) (two_less n) ∙ head_is stack n top in
    let put : block most_principals stack.saved (suc (suc n) - 2) ≡ sf_rows r i =
    ap (block most_principals stack.saved) (two_less n) ∙ saved_is stack n top ∙ saved in
    let after : rows_after (unit_of T) move.Close o (get_or obs (suc (suc n) - 2) nothing) (block most_principals stack.saved (suc (suc n) - 2)) rows ≡
    put_sf rows i (sf_rows r i) =
    ap (λ (x : E.Obligation). put_sf rows (x.worlds - 1) (block most_principals stack.saved (suc (suc n) - 2))) next ∙
    ap (put_sf rows (suc i - 1)) put ∙ ap (λ (k : ℕ). put_sf rows k (sf_rows r i)) (one_less i) in
    let room : n < most_open = omega (arith, frame.room) in
    let wait : Waits T (put_sf rows i (sf_rows r i)) (set cl c x) (set ats c y) (suc i) d es (met_in (seq T (suc i) fs' ls') p ++ os) =
    rw (rests_met (seq T (suc i) fs' ls') rests)
    (waits_set c x y fewer (waits_rows (agree_put (suc i) i rows (sf_rows r i) same) more)) in
    let under = under_two stack (suc n) o o (same_self most_chunks (suc n) stack.chunks) (same_self most_principals (suc n) stack.saved) in
    rw (moved_at (unit_of T) rows stack (suc n) cl ats move.Close o (head_is stack (suc n) frame.on_top_lem), keep, after, one_less (suc n))
    (now_open {stack = st}
    (record {
      stack_size =
          record {
            obligations = length-set (set obs (suc (suc n)) o) (suc n) o ∙ length-set obs (suc (suc n)) o ∙ frame.stack_size.obligations;
            chunks = frame.stack_size.chunks;
            saved = frame.stack_size.saved;
          };
      cl_size = length-set cl c x ∙ frame.cl_size;
      ats_size = length-set ats c y ∙ frame.ats_size;
      room = room;
      on_top_lem = entry_under n (omega arith) under ∙ top;
      chunk_size = size;
      clauses = clauses_set c x y fewer clauses;
      kept = kept_back kept refl agree;
    })
    (down_under n (omega arith) under ∙ rest)
    (at_rest rests) wait)
