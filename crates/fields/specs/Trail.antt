-- The trail, which is what the writer goes by in Via (01 Writing): how many objects there are, where the last begins, where the last two end, and where
-- the host of the last but one stands. Places are within v, the bytes of Via's value; a value that breaks Via's rule has no trail. The
-- contracts of `src/vias.rt` and of `message` cite these. Assumes nothing.
use Rattle.std.specs.Prelude.{ℕ, ◌+◌, length, get_or, cond, List, map}
use Rattle.json_text.specs.Places.{behind, elements, last_of, prev_of}
use Rattle.values.specs.Spans.{nowhere, spelling_span}
use Rattle.fields.specs.Via.{hop_places, via_rule}
use Rattle.fields.specs.declared.trails.Trail.{Trail}
use Rattle.values.specs.declared.spans.Span.{Span}

-- where the host of the object that opens at o stands
unfoldable pub host_span : List ℕ → ℕ → Span
host_span v o = spelling_span v (get_or (hop_places v o) 1 0)

-- where it begins, and where it ends
abbrev pub host_start : List ℕ → ℕ → ℕ
host_start v o = (host_span v o).start

abbrev pub host_end : List ℕ → ℕ → ℕ
host_end v o = (host_span v o).end

-- the trail of the objects that open at these places; 0 for what there is not
unfoldable pub trail_of : List ℕ → List ℕ → Trail
trail_of v os =
    record {
      count = length os;
      last = last_of os;
      end = last_of (map (behind v) os);
      seam = prev_of (map (behind v) os);
      host = record { start = prev_of (map (host_start v) os); end = prev_of (map (host_end v) os) };
    }

abbrev pub no_trail : Trail
no_trail = record { count = 0; last = 0; end = 0; seam = 0; host = nowhere }

-- the trail of a value; none where it breaks Via's rule
unfoldable pub trail_in : List ℕ → Trail
trail_in v = cond (via_rule v) (trail_of v (elements v 0)) no_trail

-- the same by the places of a text in which the value begins at a; what there is not then stands at a
unfoldable pub moved : ℕ → Trail → Trail
moved a r =
    record {
      count = r.count;
      last = a + r.last;
      end = a + r.end;
      seam = a + r.seam;
      host = record { start = a + r.host.start; end = a + r.host.end };
    }
