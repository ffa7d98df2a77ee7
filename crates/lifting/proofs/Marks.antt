-- What is answered to a new call, taken and turned away, for any keeper: computed from the definition. Assumes nothing.
use Rattle.std.specs.Prelude.{Some, None}
use Rattle.lifting.specs.inner.Keeper.{Keeper, reply}
use mathlib.Core.Bool.{false, true}
use mathlib.Core.Path.{◌≡◌, refl}

-- x is the record that the rule would open, a its answer, f the answer where the table does not take the call
pub turned-away : (K : Keeper) (x : K.Rec) (a f : K.Ans) → (reply K None (Some x) true a f ≡ a) × (reply K None (Some x) false a f ≡ f)
turned-away K x a f = (refl, refl)
