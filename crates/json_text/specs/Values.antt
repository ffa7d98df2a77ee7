-- The values of a derivation of RFC 7159's grammar: the outermost, each element, each member's value, names not (02 §9). How many they are (`count`), and
-- where the first byte of each stands, in order (`places`). proofs/Bound.antt: the places are as many as the count says, and twice the
-- count is at most the bytes and one. Assumes nothing.
use Rattle.std.specs.Prelude.{List, [], ◌∷◌, ◌++◌, ℕ, zero, suc, ◌+◌, length}
use Rattle.json_text.specs.Rfc7159.{Rule, Byte, ◌⨾◌, both, left, right, Opt, absent, present, Star, none, more, ws, name_separator, value_separator, string}
use Rattle.json_text.specs.Rfc7159.{member, value, JSON-text}

-- How many values a derivation of A has.
abbrev pub Counts : Rule → Type 0
Counts A = (s : List ℕ) → A s → ℕ

-- *( value-separator X )
abbrev pub count_more : (X : Rule) → Counts X → Counts (Star (value_separator ⨾ X))
count_more X f s none = 0
count_more X f s (more {t = u} (both {t = v} c x) r) = f v x + count_more X f u r

-- an array or an object itself, and those inside
abbrev pub count_in : (B X E : Rule) → Counts X → Counts (B ⨾ Opt (X ⨾ Star (value_separator ⨾ X)) ⨾ E)
count_in B X E f s (both b (both absent e)) = 1
count_in B X E f s (both b (both (present (both {s = v} {t = u} x r)) e)) = 1 + f v x + count_more X f u r

-- a member's value, its name not
abbrev pub count_member : (X : Rule) → Counts X → Counts (member X)
count_member X f s (both n (both {t = v} c x)) = f v x

abbrev pub count_value : (d : ℕ) → Counts (value d)
count_value zero s x = 1
count_value (suc d) s (left x) = 1
count_value (suc d) s (right (left x)) = 1
count_value (suc d) s (right (right (left x))) = 1
count_value (suc d) s (right (right (right (left o)))) = count_in _ (member (value d)) _ (count_member (value d) (count_value d)) s o
count_value (suc d) s (right (right (right (right (left a))))) = count_in _ (value d) _ (count_value d) s a
count_value (suc d) s (right (right (right (right (right x))))) = 1

-- of a whole text
abbrev pub count : (d : ℕ) → Counts (JSON-text d)
count d s (both w (both {s = v} x w')) = count_value d v x

-- Where the values of what A derives begin, if its first byte is byte i of the text; by A's parts.
abbrev pub Finds : Rule → Type 0
Finds A = (s : List ℕ) → A s → ℕ → List ℕ

abbrev pub nothing : (A : Rule) → Finds A
nothing A s x i = []

abbrev pub here : (A : Rule) → Finds A
here A s x i = i ∷ []

abbrev pub along : (A B : Rule) → Finds A → Finds B → Finds (A ⨾ B)
along A B f g s (both {s = p} {t = q} x y) i = f p x i ++ g q y (i + length p)

abbrev pub maybe : (A : Rule) → Finds A → Finds (Opt A)
maybe A f s absent i = []
maybe A f s (present x) i = f s x i

abbrev pub each : (A : Rule) → Finds A → Finds (Star A)
each A f s none i = []
each A f s (more {s = p} {t = q} x y) i = f p x i ++ each A f q y (i + length p)

-- an array or an object: its bracket, past the white space before it, and those inside
abbrev pub bracketed : (b : ℕ) (X E : Rule) → Finds X → Finds ((ws ⨾ Byte b ⨾ ws) ⨾ Opt (X ⨾ Star (value_separator ⨾ X)) ⨾ E)
bracketed b X E f =
    along _ _ (along ws (Byte b ⨾ ws) (nothing _) (here _))
    (along _ E (maybe _ (along X _ f (each _ (along value_separator X (nothing _) f)))) (nothing _))

-- a member's value
abbrev pub behind_name : (X : Rule) → Finds X → Finds (member X)
behind_name X f = along string _ (nothing _) (along name_separator X (nothing _) f)

abbrev pub value_places : (d : ℕ) → Finds (value d)
value_places zero s x i = i ∷ []
value_places (suc d) s (left x) i = i ∷ []
value_places (suc d) s (right (left x)) i = i ∷ []
value_places (suc d) s (right (right (left x))) i = i ∷ []
value_places (suc d) s (right (right (right (left o)))) i = bracketed 0x7B (member (value d)) _ (behind_name (value d) (value_places d)) s o i
value_places (suc d) s (right (right (right (right (left a))))) i = bracketed 0x5B (value d) _ (value_places d) s a i
value_places (suc d) s (right (right (right (right (right x))))) i = i ∷ []

-- of a whole text
abbrev pub places : (d : ℕ) (s : List ℕ) → JSON-text d s → List ℕ
places d s x = along ws _ (nothing _) (along (value d) ws (value_places d) (nothing _)) s x 0
