-- What functions of this crate ask of their callers: a trail within bounds (`fits` of proofs/TrailLaws.antt). Assumes nothing.
use Rattle.std.specs.Prelude.{ℕ, ◌≤◌}
use Rattle.fields.specs.declared.trails.Trail.{Trail}

-- a trail's places are at most n
pub record Within (r : Trail) (n : ℕ) : Type 0 where
  pub last : r.last ≤ n
  pub end : r.end ≤ n
  pub seam : r.seam ≤ n
  pub start : r.host.start ≤ n
  pub stop : r.host.end ≤ n
