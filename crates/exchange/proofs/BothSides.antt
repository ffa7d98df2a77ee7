-- Both sides of the mark (01), proved together; the reading's at the program's ceiling, as the list has it. Assumes nothing.
use Rattle.call.specs.Rule.{decided_held}
use Rattle.call.specs.Requests.{request}
use Rattle.exchange.specs.Marks.{Every, Says, marks}
use Rattle.json_text.specs.inner.Begun as json
use Rattle.json_text.specs.inner.Begun.{begun}
use Rattle.json_text.specs.inner.Machine.{from, walk, step, begin, opens, point, expo, ends}
use Rattle.json_text.specs.inner.Tour.{tour}
use Rattle.json_text.specs.Places.{is_ws}
use Rattle.message.specs.Reading.{ample, reading, reporting}
use Rattle.octets.specs.Ascii.{ascii}
use Rattle.octets.specs.Class.{among}
use Rattle.rules.proofs.Marks.{call_ids, sequences, dates}
use Rattle.utf8.specs.Rfc3629.{octets, char_at, begins, goes_on}
use mathlib.Core.Path.{refl}

number : Says (reading ample (ascii "[01]")) 4 2
unfolding reading reporting octets char_at begins among goes_on tour begun json.begins from walk step is_ws begin opens point expo ends
number = (refl, refl)

pub both-sides : Every marks
unfolding Every decided_held request
both-sides =
    (call_ids.0, (call_ids.1, (sequences.0, (sequences.1.0, (sequences.1.1, (dates.0, (dates.1, (number, (refl, (refl, (refl, (refl, tt))))))))))))
