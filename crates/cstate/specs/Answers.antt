-- What C gets back: a call's answer as numbers, and the state after it. Refusal 0 means none; on a refusal the other numbers are 0.
use Rattle.std.specs.Prelude.{Bool, true, false, List, ℕ, Ok, Err, Result}
use Rattle.base.specs.Number.{pick}
use Rattle.refusal.specs.Refusal.{number_of}
use Rattle.writer.specs.declared.Answer.TheVariants.{Done, Appended, NoneDue, Same, Different}
use Rattle.record.specs.declared.Source.{Source}
use Rattle.writer.specs.declared.Beginning.{Beginning}
use Rattle.writer.specs.declared.PartsStep.{PartsStep}
use Rattle.writer.specs.declared.Step.{Step}
use Rattle.writer.specs.Parts.{whole_of}
use Rattle.cstate.specs.declared.State.{State}
use Rattle.cstate.specs.declared.UpdateNumbers.{UpdateNumbers}
use Rattle.cstate.specs.declared.UpdateStep.{UpdateStep}
use Rattle.cstate.specs.State.{saved_of}
use Rattle.refusal.specs.declared.Refusal.{Refusal}
use Rattle.writer.specs.declared.Answer.{Answer}

abbrev pub done : ℕ → ℕ → UpdateNumbers
done answer count = record { refusal = 0; answer = answer; count = count }

abbrev pub refused : ℕ → UpdateNumbers
refused r = record { refusal = r; answer = 0; count = 0 }

-- the numbers of answers
abbrev pub answer_done : ℕ
answer_done = 0

abbrev pub answer_appended : ℕ
answer_appended = 1

abbrev pub answer_none_due : ℕ
answer_none_due = 2

abbrev pub answer_same : ℕ
answer_same = 3

abbrev pub answer_different : ℕ
answer_different = 4

-- `count` is the number of bytes appended
abbrev pub of_answer : Result Answer Refusal → UpdateNumbers
of_answer (Ok Done) = done answer_done 0
of_answer (Ok (Appended n)) = done answer_appended n
of_answer (Ok NoneDue) = done answer_none_due 0
of_answer (Ok Same) = done answer_same 0
of_answer (Ok Different) = done answer_different 0
of_answer (Err r) = refused (number_of r)

abbrev pub is_answer : Result Answer Refusal → Bool
is_answer (Ok Done) = true
is_answer (Ok (Appended n)) = true
is_answer (Ok NoneDue) = true
is_answer (Ok Same) = true
is_answer (Ok Different) = true
is_answer (Err r) = false

-- a state with other sources and another tail
abbrev pub with_rest : List Source → List ℕ → State → State
with_rest ss tail s =
    record {
      stage = s.stage;
      first = s.first;
      second = s.second;
      active = s.active;
      bank = s.bank;
      now = s.now;
      comparing = s.comparing;
      written = s.written;
      fill = s.fill;
      crc = s.crc;
      different = s.different;
      closed = s.closed;
      tables = s.tables;
      sources = ss;
      tail = tail;
    }

-- the state after the call: the step's if the call was answered, unchanged on a refusal
abbrev pub state_after : Step → State → State
state_after s was = pick (is_answer s.answer) (saved_of s.writer) was

-- a call on a state's parts, with the sources and the tail that it left
abbrev pub after_parts : Beginning → PartsStep → List Source → List ℕ → State → UpdateStep
after_parts b s ss tail was =
    record { numbers = of_answer s.answer; state = with_rest ss tail (pick (is_answer s.answer) (saved_of (whole_of b s.parts ss tail)) was) }

abbrev pub after : Step → State → UpdateStep
after s was = record { numbers = of_answer s.answer; state = state_after s was }
