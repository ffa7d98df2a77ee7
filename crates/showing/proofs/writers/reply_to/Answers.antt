-- A refused word is answered `?`; else the bytes taken are the date and the message. Assumes nothing.
use Rattle.showing.proofs.ShownLaws.{says}
use Rattle.showing.proofs.WriterLaws.{last-refused, last_taken, no_room, reply-last, rest-room}
use Rattle.showing.proofs.writers.reply_to.Goals as goal
use mathlib.Core.Path.{◌∙◌, sym}

pub returns-in_default : goal.returns-in_default
returns-in_default c =
    let x = c.args in says x.out.now (sym (no_room x.words.now _ (sym c.first_number.ensures ∙ c.in_default.is))) c.put_unknown.ensures

pub take_bytes-requires : goal.take_bytes-requires
take_bytes-requires c = rw c.rest.ensures (rest-room c.args.words.now c.args.d c.requires.0)

pub returns-in_default-take_bytes : goal.returns-in_default-take_bytes
returns-in_default-take_bytes c =
    let x = c.args in
    says x.out.now (sym (last-refused x.words.now x.bytes.now x.d _ c.requires.0 (sym c.first_number.ensures ∙ c.in-Some.is) (rw c.rest.ensures at c.take_bytes.ensures)
    c.in_default-take_bytes.is _)) c.put_unknown-in_default-take_bytes.ensures

pub slice_bounds-write_reply-end : goal.slice_bounds-write_reply-end
slice_bounds-write_reply-end c =
    let x = c.args in
    let l = last_taken x.words.now x.bytes.now x.d _ c.requires.0 (sym c.first_number.ensures ∙ c.in-Some.is) (rw c.rest.ensures at c.take_bytes.ensures) c.requires.1
    c.in-Some-take_bytes.is in
    l.within

pub write_reply-requires : goal.write_reply-requires
write_reply-requires c =
    let x = c.args in
    let l = last_taken x.words.now x.bytes.now x.d _ c.requires.0 (sym c.first_number.ensures ∙ c.in-Some.is) (rw c.rest.ensures at c.take_bytes.ensures) c.requires.1
    c.in-Some-take_bytes.is in
    l.small

pub returns : goal.returns
returns c =
    let x = c.args in
    let l = last_taken x.words.now x.bytes.now x.d _ c.requires.0 (sym c.first_number.ensures ∙ c.in-Some.is) (rw c.rest.ensures at c.take_bytes.ensures) c.requires.1
    c.in-Some-take_bytes.is in
    reply-last x.out.now x.code l c.write_reply.ensures
