-- The reading, and its count behind it. Assumes nothing.
use Rattle.showing.proofs.ReadingLaws.{report_shown}
use Rattle.showing.proofs.readings.put_report.Goals as goal

pub returns : goal.returns
returns c =
    let x = c.args in
    report_shown x.out.now x.report c.put_reading-before_count.ensures.0 c.put_number.ensures
