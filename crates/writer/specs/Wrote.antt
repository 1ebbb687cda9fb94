-- A text put into the output behind what stands there: the reference stays the same, and the place goes on by the text's length.
use Rattle.std.specs.Prelude.{ℕ, ◌+◌, ◌≤◌, ◌≡◌, refl, List, [], ◌++◌}
use Rattle.std.proofs.Common.{◌∙◌}
use Rattle.writer.specs.declared.output.Output.{Output}
use Rattle.writer.specs.Puts.{Puts, puts_then, puts_same, puts_none}

-- The output before and after, and the most bytes that such a text has.
pub record Wrote (before : Output) (text : List ℕ) (most : ℕ) (after : Output) : Type 0 where
  pub same : after.bytes.ghost_name ≡ before.bytes.ghost_name
  pub puts : Puts before.bytes.now before.at text most after.bytes.now after.at

-- One text after the other.
pub wrote_then : {a m z : Output} {s t : List ℕ} {v w : ℕ} → Wrote a s v m → Wrote m t w z → Wrote a (s ++ t) (v + w) z
wrote_then p q = record { same = q.same ∙ p.same; puts = puts_then p.puts q.puts }

-- The same text, at most as many bytes.
pub wrote_same : {a z : Output} {s t : List ℕ} {v w : ℕ} → s ≡ t → v ≤ w → Wrote a s v z → Wrote a t w z
wrote_same e h p = record { same = p.same; puts = puts_same e h p.puts }

pub wrote_none : (a : Output) → Wrote a [] 0 a
wrote_none a = record { same = refl; puts = puts_none a.bytes.now a.at }
