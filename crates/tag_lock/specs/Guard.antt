-- What a contract sees of a value that is held: the seat that took it, and the value.
use Rattle.std.specs.Coded.{Coded, code_by, coded×}
use Rattle.std.specs.Prelude.{refl}
use Rattle.tag_lock.specs.Token.{Token, token_code}

pub record Guard (T V : Type 0) : Type 0 where
  pub token : Token T
  pub value : V

-- a guard is stored as the pair of its fields
abbrev pub guard_code : {T V : Type 0} → Coded T → Coded V → Coded (Guard T V)
guard_code {T} {V} tag value =
    code_by (Token T × V) (coded× (token_code tag) value) (λ g. (g.token, g.value))
    (λ p. record { token = p.0; value = p.1 }) (λ _. refl)
