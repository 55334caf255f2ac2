-- A space; a digit of a number; a digit past the numbers that are looked at.
use Rattle.std.proofs.Common.{rules, ◌<◌, ◌∙◌, sym, arith, length}
use Rattle.std.proofs.lemmas.List.{length-set}
use Rattle.test_lines.proofs.Reading.{space_read, digit_read, past_read}
use Rattle.test_lines.proofs.numbers.numbers.Goals.{then-byte-eq32, else-byte-eq32+then-place-lt-MOST_NUMBERS, else-byte-eq32+else-place-lt-MOST_NUMBERS}
use Rattle.test_lines.proofs.numbers.numbers.Goals as goal

pub loop-byte-preserved : goal.loop-byte-preserved
loop-byte-preserved c =
    let p = c.loop-byte in
    let i = p.invariant in
    let bytes = c.words-byte-items.result.now in
    let few = i.few in
    let more : p.byte-index < length bytes = search rules in
    elim c.if-byte-eq32.branch [
      | then-byte-eq32 w ↦
          let e = space_read bytes p.byte-index p.place p.numbers more w.if-byte-eq32.true in
          rw (w.numbers-is, w.place-is) (record { few = omega (arith, few); size = i.size; left = sym e ∙ i.left })
      | else-byte-eq32+then-place-lt-MOST_NUMBERS w ↦
          let e = digit_read bytes p.byte-index p.place p.numbers more w.if-byte-eq32.false in
          rw (w.numbers-is, w.place-is, w.with_digit.ensures) (record { few = omega (arith, few); size = length-set p.numbers p.place _ ∙ i.size; left = sym e ∙ i.left })
      | else-byte-eq32+else-place-lt-MOST_NUMBERS w ↦
          let e = past_read bytes p.byte-index p.place p.numbers more w.if-byte-eq32.false (search rules) in
          rw (w.numbers-is, w.place-is) (record { few = omega (arith, few); size = i.size; left = sym e ∙ i.left })
    ]
