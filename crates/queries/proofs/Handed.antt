-- An output as `hands` of front_part takes it: the part, the whole buffer and the refusal of a call that writes one.
use mathlib.Core.Path.{◌≡◌, ap}
use lib.ListN.{length}
use Rattle.front_part.proofs.Form.{Output}
use Rattle.reference.specs.Call.{Form, Write, Ask}
use Rattle.reference.specs.Answers.{refusal_on, out_after, out_part, output_outcome}
use Rattle.reference.specs.declared.OutputOutcome.{OutputOutcome}
use Rattle.reference.proofs.Demand1.{demand-1}
use Rattle.reference.proofs.Demand2.{demand-2}

abbrev pub output : Form → Output
output form = record {
  part_of = out_part form;
  after_of = out_after form;
  refusal_of = λ journal out. refusal_on (Ask (Write form (length out))) journal;
  size = demand-1.out_size form;
  front = demand-2.handed_back form;
  Answers = λ journal out end refusal. record { refusal = refusal; length = end } ≡ output_outcome form journal out;
  end = λ journal out end refusal e. ap (λ (x : OutputOutcome). x.length) e;
  refusal = λ journal out end refusal e. ap (λ (x : OutputOutcome). x.refusal) e;
}
