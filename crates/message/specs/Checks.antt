-- 01 Reading, rows 8 and 9: the fields that a tag or a method asks for, first what is missing, then what breaks its rule. A run of both rows
-- goes by the tag, and for a request a second one by its method. Assumes nothing.
use Rattle.std.specs.Prelude.{ℕ, zero, suc, ◌+◌, eqb, ltb, get_or, Bool, true, false, not, ◌&&◌, cond, List, Result, Ok, Err}
use Rattle.json_text.specs.Places.{bytes}
use Rattle.fields.specs.Field.{keeps, fault_at}
use Rattle.message.specs.declared.refusals.Refusal.TheVariants.{Missing, Rule}
use Rattle.message.specs.declared.refusals.Refusal.{Refusal}
use Rattle.fields.specs.declared.judging.Setting.{Setting}
use Rattle.rules.specs.Asks.{tag_asks, method_asks}
use Rattle.rules.specs.Numbers.{required, unlisted}

-- what a row says: nothing, or that it refuses
abbrev pub Check : Type 0
Check = Result (Unit {0}) Refusal

-- what the run asks of field n: required, optional, or not listed; by the tag, or by a request's method
abbrev pub asks : Bool → Setting → ℕ → ℕ
asks true k n = tag_asks k.tag n
asks false k n = method_asks k.method n

-- row 8: field n is required and has no place in t
unfoldable pub lacks : Bool → Setting → List ℕ → ℕ → Bool
lacks run k t n = eqb (asks run k n) required && eqb (get_or t n 0) 0

-- row 9: field n is listed, is there, and its value breaks its rule
unfoldable pub breaks : List ℕ → Bool → Setting → List ℕ → ℕ → Bool
breaks s run k t n = ltb unlisted (asks run k n) && (ltb 0 (get_or t n 0) && not (keeps k n (bytes s (get_or t n 0))))

-- the lowest of the k numbers from n on of which f is true; 0 if there is none
unfoldable pub lowest : (ℕ → Bool) → ℕ → ℕ → ℕ
lowest f n zero = 0
lowest f n (suc k) = cond (f n) n (lowest f (n + 1) k)

-- the lowest field number that is missing, and the lowest that breaks its rule; 0 if there is none
abbrev pub missing : Bool → Setting → List ℕ → ℕ
missing run k t = lowest (lacks run k t) 1 26

abbrev pub broken : List ℕ → Bool → Setting → List ℕ → ℕ
broken s run k t = lowest (breaks s run k t) 1 26

-- the place of a 9: where the value of field n breaks its rule, at its first byte or, of the fields 1 to 5, at a string's bad letter (02 §12): `nine-letter`
-- in proofs/NineLaws.antt
abbrev pub broken_place : List ℕ → Setting → List ℕ → ℕ → ℕ
broken_place s k t n = get_or t n 0 + fault_at k n (bytes s (get_or t n 0))

-- row 8 on a run, where m is the lowest field that is missing, and row 9, where b is the lowest that breaks its rule
abbrev pub eight : ℕ → Check
eight m = cond (ltb 0 m) (Err (Missing m)) (Ok tt)

abbrev pub nine : List ℕ → Setting → List ℕ → ℕ → Check
nine s k t b = cond (ltb 0 b) (Err (Rule (broken_place s k t b))) (Ok tt)

-- rows 8 and 9 on a run
unfoldable pub checked : List ℕ → Bool → Setting → List ℕ → Check
checked s run k t = cond (ltb 0 (missing run k t)) (Err (Missing (missing run k t))) (nine s k t (broken s run k t))
