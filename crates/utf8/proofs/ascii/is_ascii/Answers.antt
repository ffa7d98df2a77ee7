-- `utf8::ascii::is_ascii` meets its contract. By the bits that any byte has. Assumes nothing.
use Rattle.std.specs.Int.Bits.{bit_or}
use Rattle.std.specs.List.{fold}
use Rattle.utf8.proofs.AsciiLaws.{ascii_run}
use Rattle.utf8.proofs.ascii.is_ascii.Goals as goal
use borrow.Author.Rules.{rules}
use borrow.Author.Tests.{ltb-true}
use mathlib.Core.Path.{◌≡◌}
use native.Mathlib.Omega.{arith}

pub returns : goal.returns
returns c = λ t.
    let e : c.fold.result ≡ fold bit_or 0 c.args.run.now = search rules in
    ascii_run c.args.run.now (omega (arith, ltb-true _ _ t))
