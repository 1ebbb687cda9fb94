-- `peraduksi::peraduksi_read`: the reader's own answer as one record, and its tables.
use Rattle.std.proofs.Common.{ap, ◌∙◌}
use Rattle.peraduksi.specs.Read.{read_in, read_in_lem}
use Rattle.peraduksi.proofs.peraduksi_read.Goals as goal

pub returns : goal.returns
returns c =
    let read = c.read_request.ensures in
    record {
      value = c.from.ensures ∙ ap read_in read.value ∙ read_in_lem _;
      forms_after = read.forms_after;
      policy_after = read.policy_after;
      steps_after = read.steps_after;
    }
