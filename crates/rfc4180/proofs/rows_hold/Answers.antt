use Rattle.rfc4180.specs.Claims.{Claims}
use Rattle.rfc4180.proofs.rows_hold.Goals as goal
use Rattle.rfc4180.proofs.Grammar.{writes, sound, complete, read_back, one-reading, reads-crlf, in-numbers, lone-cr, lone-crs, text-unquoted}
use Rattle.rfc4180.proofs.Frame.{row-in-front, front-in-row}
use Rattle.rfc4180.proofs.Ends.{lf-to-crlf, crlf-to-lf}
use Rattle.rfc4180.proofs.Sizes.{not-longer}

claims : Claims
claims = record {
  written = writes;
  sound = sound;
  complete = λ bs rest vs q. complete q;
  reads_back = read_back;
  one_reading = λ bs r s vs ws p q. one-reading p q;
  in_front = λ n bs r vs q h. row-in-front n q h;
  of_all = λ n bs s vs q. front-in-row n bs q;
  reads_crlf = reads-crlf;
  lf_to_crlf = lf-to-crlf;
  crlf_to_lf = crlf-to-lf;
  in_numbers = in-numbers;
  lone_cr = λ n bs p. lone-cr n p;
  lone_crs = lone-crs;
  not_longer = not-longer;
  text_unquoted = text-unquoted;
}

pub returns : goal.returns
returns c = claims
