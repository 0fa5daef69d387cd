use Rattle.bankcore.proofs.lower_calls.operations_hold.Goals as goal
use Rattle.bankcore.proofs.Told.{due-is-told, header-is-told, word-is-told}

pub returns : goal.returns
returns c =
    record {
      due_is_told = due-is-told;
      header_is_told = header-is-told;
      word_is_told = word-is-told;
    }
