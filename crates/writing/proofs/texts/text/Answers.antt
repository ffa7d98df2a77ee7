-- `writing::texts::text` meets its contract. One law of `TextingLaws` for each way out. Assumes nothing.
use Rattle.writing.proofs.TextingLaws.{text-broken, text-long, text-room, text-done}
use Rattle.writing.proofs.texts.text.Goals as goal

pub returns-then-m : goal.returns-then-m
returns-then-m c = let x = c.args in
    text-broken x.out.now x.s.now c.measure-m.ensures c.if-m.true

pub returns-then-m-gt32768 : goal.returns-then-m-gt32768
returns-then-m-gt32768 c = let x = c.args in
    text-long x.out.now x.s.now c.measure-m.ensures c.if-m.false c.if-m-gt32768.true

pub returns-then-out-m : goal.returns-then-out-m
returns-then-out-m c = let x = c.args in
    text-room x.out.now x.s.now c.measure-m.ensures c.if-m.false c.if-m-gt32768.false c.if-out-m.true

pub returns : goal.returns
returns c =
    let x = c.args in
    text-done x.out.now x.s.now c.measure-m.ensures c.if-m.false c.if-m-gt32768.false c.if-out-m.false
    c.decode.ensures
