-- What a contract sees of a lock and of a seat.
use Rattle.std.specs.Prelude.{ℕ, Option, IsSomeAnd, refl}
use Rattle.atomic_table.specs.Seated.{TableId, table_id_coded}
use Rattle.std.specs.Coded.{Coded, code_by, coded×, coded_ℕ, coded_option}

-- which lock it is
abbrev pub LockId : Type 0
LockId = TableId

-- a seat: its lock, the tag and the start count, its parts of the 64, and the highest rank that it has seen
pub record Token (T : Type 0) : Type 0 where
  pub lock : LockId
  pub tag : Option T
  pub start : ℕ
  pub parts : ℕ
  pub seen : ℕ

-- a token is stored as the tuple of its fields
abbrev pub token_code : {T : Type 0} → Coded T → Coded (Token T)
token_code {T} code =
    code_by (TableId × (Option T × (ℕ × (ℕ × ℕ)))) (coded× table_id_coded
    (coded× (coded_option code) (coded× coded_ℕ (coded× coded_ℕ coded_ℕ))))
    (λ t. (t.lock, (t.tag, (t.start, (t.parts, t.seen)))))
    (λ p. record { lock = p.0; tag = p.1.0; start = p.1.1.0; parts = p.1.1.1.0; seen = p.1.1.1.1 }) (λ _. refl)

-- the value stands for this tag, which is known, and this start count
abbrev pub StandsFor : {V T : Type 0} → (T → ℕ → V → Type 0) → Option T → ℕ → V → Type 0
StandsFor stands tag start x = IsSomeAnd tag (λ t. stands t start x)
