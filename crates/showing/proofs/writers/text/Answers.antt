-- A refused word is answered `?`; else the bytes taken are what is decoded. Assumes nothing.
use Rattle.showing.proofs.WriterLaws.{last-refused, last_taken, no_room, rest-room, text-last, text-refused}
use Rattle.showing.proofs.writers.text.Goals as goal
use mathlib.Core.Path.{◌∙◌, sym}
use native.Mathlib.Omega.{arith}

pub returns-in_default : goal.returns-in_default
returns-in_default c =
    let x = c.args in
    text-refused x.out.now x.words.now (λ f. no_room x.words.now f (sym c.first_number.ensures ∙ c.in_default.is)) c.put_unknown.ensures

pub take_bytes-requires : goal.take_bytes-requires
take_bytes-requires c = rw c.rest.ensures (rest-room c.args.words.now 0 (omega arith))

pub returns-in_default-take_bytes : goal.returns-in_default-take_bytes
returns-in_default-take_bytes c =
    let x = c.args in
    text-refused x.out.now x.words.now
    (last-refused x.words.now x.bytes.now 0 _ (omega arith) (sym c.first_number.ensures ∙ c.in-Some.is) (rw c.rest.ensures at c.take_bytes.ensures)
    c.in_default-take_bytes.is) c.put_unknown-in_default-take_bytes.ensures

pub slice_bounds-write_text-end : goal.slice_bounds-write_text-end
slice_bounds-write_text-end c =
    let x = c.args in
    let l = last_taken x.words.now x.bytes.now 0 _ (omega arith) (sym c.first_number.ensures ∙ c.in-Some.is) (rw c.rest.ensures at c.take_bytes.ensures) (omega arith)
    c.in-Some-take_bytes.is in
    l.within

pub write_text-requires : goal.write_text-requires
write_text-requires c =
    let x = c.args in
    let l = last_taken x.words.now x.bytes.now 0 _ (omega arith) (sym c.first_number.ensures ∙ c.in-Some.is) (rw c.rest.ensures at c.take_bytes.ensures) (omega arith)
    c.in-Some-take_bytes.is in
    l.small

pub returns : goal.returns
returns c =
    let x = c.args in
    let l = last_taken x.words.now x.bytes.now 0 _ (omega arith) (sym c.first_number.ensures ∙ c.in-Some.is) (rw c.rest.ensures at c.take_bytes.ensures) (omega arith)
    c.in-Some-take_bytes.is in
    text-last x.out.now x.words.now l c.write_text.ensures
