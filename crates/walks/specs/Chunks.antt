-- What a move writes into the chunks of the current place n, and of the one above (`Wrote`): nothing, one chunk, or the same chunks above
-- with another on top of each. `top_is` : the topmost chunk that is read is the current entry's.
use Rattle.std.specs.Prelude.{ℕ, suc, ◌-◌, ◌+◌, ◌*◌, ◌<◌, ◌≤◌, ◌≡◌, List, length, get_or, set}
use Rattle.std.proofs.Common.{sym, ap, ◌∙◌, arith, length-set}
use Rattle.scope.specs.Limits.{most_open, most_chunks}
use Rattle.scope.specs.Logic.Facts.{Fact}
use Rattle.scope.specs.Logic.Obligation.{Lab}
use Rattle.moves.specs.declared.Lab as L
use Rattle.moves.specs.declared.Phase as D
use Rattle.moves.specs.declared.Phase.TheVariants as phase
use Rattle.machine.specs.Change.{chunk_count}
use Rattle.machine.specs.Tables.{places, block, put_block, top_chunk}
use Rattle.machine.specs.Machine.{Stack}
use Rattle.walks.specs.Trees.{Reading}
use Rattle.walks.specs.Blocks.{block_length, block_at, block_set, block_put, put_length, set_above}
use Rattle.walks.specs.Blocks.{Same, same_self, same_set, same_put, same_block}
use Rattle.walks.specs.Related.{Standing}
use Rattle.walks.specs.Views.{chunks_is}

pub one_less : (n : ℕ) → suc n - 1 ≡ n
one_less n = omega arith

-- After the writes the chunks of place n are ch, and those below are as they were.
pub record Wrote (n : ℕ) (l l' ch : List ℕ) : Type 0 where
  pub size : length l' ≡ places * most_chunks
  pub below : Same most_chunks n l l'
  pub here : block most_chunks l' n ≡ ch

module _ {n : ℕ} {l l' ch : List ℕ} (j x : ℕ) where
  -- Chunk number j of the current place, and of the one above.
  pub wrote_set : j < most_chunks → n < places → Wrote n l l' ch → Wrote n l (set l' (n * most_chunks + j) x) (set ch j x)
  wrote_set h room w =
      let long : n * most_chunks + most_chunks ≤ length l' = omega (arith, w.size) in
      record {
        size = length-set l' (n * most_chunks + j) x ∙ w.size;
        below = same_set most_chunks (n * most_chunks + j) x (omega arith) w.below;
        here = block_set most_chunks l' n j x h long ∙ ap (λ (t : List ℕ). set t j x) w.here;
      }

  pub wrote_above : Wrote n l l' ch → Wrote n l (set l' (suc n * most_chunks + j) x) ch
  wrote_above w =
      let past : suc n * most_chunks ≤ suc n * most_chunks + j = omega arith in
      let last : n < suc n = omega arith in
      record {
        size = length-set l' (suc n * most_chunks + j) x ∙ w.size;
        below = same_set most_chunks (suc n * most_chunks + j) x (omega arith) w.below;
        here = same_block most_chunks n last (same_set most_chunks (suc n * most_chunks + j) x past (same_self most_chunks (suc n) l')) ∙ w.here;
      }

-- Of the current entry's chunks.
module _ {T : Reading} {rows cl ats ch sv : List ℕ} {stack : Stack} {n m c : ℕ} {ph : D.Phase} {fs : List Fact} {ls : List Lab}
    (frame : Standing T rows stack n cl ats ph m c ch sv fs ls) where
  pub wrote_none : Wrote n stack.chunks stack.chunks ch
  wrote_none =
      record { size = frame.stack_size.chunks; below = same_self most_chunks n stack.chunks; here = chunks_is stack n frame.on_top_lem }

  -- The same chunks one place above, and, after another chunk in each, what stands there.
  pub wrote_copy : Wrote n stack.chunks (put_block most_chunks stack.chunks (suc n) (block most_chunks stack.chunks n)) ch
  wrote_copy =
      let l : List ℕ = stack.chunks in
      let over : n ≤ suc n = omega arith in
      let low : suc n ≤ suc n = omega arith in
      let last : n < suc n = omega arith in
      record {
        size = put_length most_chunks l (suc n) (block most_chunks l n) ∙ frame.stack_size.chunks;
        below = same_put most_chunks (suc n) (block most_chunks l n) over (same_self most_chunks n l);
        here = same_block most_chunks n last (same_put most_chunks (suc n) (block most_chunks l n) low (same_self most_chunks (suc n) l)) ∙ chunks_is stack n frame.on_top_lem;
      }

  pub case_above : (i f h : ℕ) → i < most_chunks → suc n < most_open →
      block most_chunks (set (set (put_block most_chunks stack.chunks (suc n) (block most_chunks stack.chunks n)) (n * most_chunks + i) h) (suc n * most_chunks + i) f) (suc n) ≡ set ch i f
  case_above i f h few room =
      let l : List ℕ = stack.chunks in
      let copy : List ℕ = put_block most_chunks l (suc n) (block most_chunks l n) in
      let long : suc n * most_chunks + most_chunks ≤ length l = omega (arith, frame.stack_size.chunks) in
      let long' : suc n * most_chunks + most_chunks ≤ length (set copy (n * most_chunks + i) h) =
      omega (arith, frame.stack_size.chunks, put_length most_chunks l (suc n) (block most_chunks l n), length-set copy (n * most_chunks + i) h) in
      block_set most_chunks (set copy (n * most_chunks + i) h) (suc n) i f few long' ∙
      ap (λ (t : List ℕ). set t i f)
      (set_above most_chunks copy n i h few ∙ block_put most_chunks l (suc n) (block most_chunks l n) (block_length most_chunks l n) long ∙ chunks_is stack n frame.on_top_lem)

-- The topmost chunk of the table is the current entry's.
pub top_is : {T : Reading} {rows cl ats ch sv : List ℕ} {stack : Stack} {n m c i : ℕ} {g : L.Lab} {fs : List Fact} {ls : List Lab} →
    Standing T rows stack n cl ats (phase.Chunks g (suc i)) m c ch sv fs ls → i < most_chunks →
    top_chunk stack.chunks n (phase.Chunks g (suc i)) ≡ get_or ch i 0
unfolding top_chunk chunk_count
top_is {stack} {n} {i} frame few =
    ap (λ (k : ℕ). get_or stack.chunks (n * most_chunks + k) 0) (one_less i) ∙ sym (block_at most_chunks stack.chunks n i few) ∙
    ap (λ (t : List ℕ). get_or t i 0) (chunks_is stack n frame.on_top_lem)
