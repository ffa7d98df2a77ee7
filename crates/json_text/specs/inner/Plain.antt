-- RFC 7159's value with the RFC's own recursion and no depth, beside the grammar by depth of Rfc7159. Inner: no contract cites it. `plain` in
-- proofs/PlainLaws.antt says that both have the same texts. Assumes nothing.
use Rattle.std.specs.Prelude.{List, [], ◌++◌, ℕ}
use Rattle.json_text.specs.Rfc7159.{Rule, ◌⨾◌, ◌or◌, ws, begin-array, begin-object, end-array, end-object, name_separator, value_separator, False, null, True, number, string}

mutual
  -- value = false / null / true / object / array / number / string; an object and an array are empty or not
  pub data Value : List ℕ → Type 0 where
    simple : {s : List ℕ} → (False or null or True or number or string) s → Value s
    empty-object : {a z : List ℕ} → begin-object a → end-object z → Value (a ++ z)
    object : {a m r z : List ℕ} → begin-object a → Member m → Members r → end-object z → Value (a ++ ((m ++ r) ++ z))
    empty-array : {a z : List ℕ} → begin-array a → end-array z → Value (a ++ z)
    array : {a v r z : List ℕ} → begin-array a → Value v → Values r → end-array z → Value (a ++ ((v ++ r) ++ z))

  -- member = string name-separator value
  pub data Member : List ℕ → Type 0 where
    member : {n c v : List ℕ} → string n → name_separator c → Value v → Member (n ++ (c ++ v))

  -- *( value-separator member )
  pub data Members : List ℕ → Type 0 where
    no_member : Members []
    and-member : {c m r : List ℕ} → value_separator c → Member m → Members r → Members ((c ++ m) ++ r)

  -- *( value-separator value )
  pub data Values : List ℕ → Type 0 where
    no_value : Values []
    and-value : {c v r : List ℕ} → value_separator c → Value v → Values r → Values ((c ++ v) ++ r)

-- JSON-text = ws value ws
abbrev pub Text : Rule
Text = ws ⨾ Value ⨾ ws
