-- The areas one behind the other: what each gives, and the first bad key, are those of the whole state.
use Rattle.std.proofs.Common.{◌≡◌, ℕ, ◌^◌, ◌<◌, List, [], ◌∷◌, ◌++◌, length, Bool, true, false, cond, refl, sym, ap, ◌∙◌, subst, Option, Some, None, is_some, Ok, Err, Result, arith, inl, inr}
use Rattle.std.specs.Prelude.{◌&&◌, ◌||◌, ◌==◌, ◌⊎◌, nat_lt}
use Rattle.std.proofs.lemmas.Bool.Decides.{nat_tests}
use Rattle.std.proofs.lemmas.Nat.{from_be_bytes-to_be_bytes_4}
use Rattle.std.specs.Int.{w32, w64}
use Rattle.rl_value.specs.Order.{same_bytes}
use Rattle.rl_value.specs.Outcome.{◌>>=◌}
use Rattle.rl_ports.specs.Store.{Store}
use Rattle.redo_vec.specs.Cutting.{number_in}
use Rattle.redo_vec.specs.Spelling.{be32}
use Rattle.redo_spec.specs.LogHeader.{header_in, header_fault}
use Rattle.redo_spec.specs.Skips.{Skip}
use Rattle.redo_spec.specs.Tables.{Tables}
use Rattle.log_registry.specs.declared.entry.LogEntry.{LogEntry}
use Rattle.log_registry.specs.Registered.{entry_of, entry_with}
use Rattle.standby_spec.specs.declared.mark.Mark.{Mark}
use Rattle.standby_spec.specs.KeptState.{KeptState}
use Rattle.standby_spec.specs.Loading.{StorePlace, KeyValue, Identity, Applied, has_key, read_area, no_fault, is_log_of, log_step, standby_in, logs_in, tables_in, skips_in, rows_in, applied_in, marks_in, state_of, state_in}
use Rattle.standby_spec.specs.Writings.{log_limit}
use Rattle.redo_spec.proofs.FieldLaws.{header_passed}
use Rattle.standby_spec.proofs.SpellLaws.{when-given, step-given, ok-same}
use Rattle.standby_spec.proofs.StoreLaws.{and-left, and-right, bytes_is}
use Rattle.checkpoint.specs.declared.fault.LoadFault.{LoadFault}
use Rattle.checkpoint.specs.declared.fault.LoadFault.TheVariants as faults
use Rattle.checkpoint.specs.Areas.{IsBadKey}
use Rattle.checkpoint.specs.Read.{contents_in}

-- ---- a bad key goes before all behind it

pub bad_on : {A B : Type 0} (f : LoadFault) (r : Result A StorePlace) (k : A → Result B StorePlace) → IsBadKey f r →
    IsBadKey f (r >>= k)
bad_on (faults.BadKeeper area key) r k e = ap (λ x. x >>= k) e
bad_on faults.KeeperFault r k e = tt
bad_on faults.Memory r k e = tt

pub bad_same : {A : Type 0} (f : LoadFault) (r x : Result A StorePlace) → r ≡ x → IsBadKey f r → IsBadKey f x
bad_same f r x same e = subst (IsBadKey f) same e

-- ---- the areas of a state

-- what is behind the logs
abbrev pub behind_logs : Store → Identity → List LogEntry → Result KeptState StorePlace
behind_logs s identity logs =
    contents_in s >>= λ c. applied_in s >>= λ applied. marks_in logs applied.0 s >>=
    λ mark. Ok (state_of identity logs c.0 c.1 applied mark)

paired : {B C D : Type 0} (y : B) (r : Result C StorePlace) (k : B → C → Result D StorePlace) →
    (r >>= λ z. k y z) ≡ ((r >>= λ z. Ok (y, z)) >>= λ (c : B × C). k c.0 c.1)
paired y (Ok z) k = refl
paired y (Err e) k = refl

regroup : {A B C D : Type 0} (a : Result A StorePlace) (b : Result B StorePlace) (f : A → Result C StorePlace)
    (k : B → C → Result D StorePlace) →
    (a >>= λ x. b >>= λ y. f x >>= λ z. k y z) ≡ ((a >>= λ x. b >>= λ y. f x >>= λ z. Ok (y, z)) >>= λ (c : B × C). k c.0 c.1)
regroup (Ok x) (Ok y) f k = paired y (f x) k
regroup (Ok x) (Err e) f k = refl
regroup (Err e) b f k = refl

abbrev with_identity : Store → Identity → Result KeptState StorePlace
with_identity s identity = do
  logs ← logs_in identity s
  rows ← tables_in s
  skips ← skips_in s
  tables ← rows_in rows s
  applied ← applied_in s
  mark ← marks_in logs applied.0 s
  Ok (state_of identity logs skips tables applied mark)

abbrev with_logs : Store → Identity → List LogEntry → Result KeptState StorePlace
with_logs s identity logs = do
  rows ← tables_in s
  skips ← skips_in s
  tables ← rows_in rows s
  applied ← applied_in s
  mark ← marks_in logs applied.0 s
  Ok (state_of identity logs skips tables applied mark)

pub known_identity : (s : Store) (identity : Identity) → standby_in s ≡ Ok identity →
    state_in s ≡ (logs_in identity s >>= with_logs s identity)
known_identity s identity e = ap (λ r. r >>= with_identity s) e

pub known_logs : (s : Store) (identity : Identity) (logs : List LogEntry) → standby_in s ≡ Ok identity →
    logs_in identity s ≡ Ok logs →
    state_in s ≡ behind_logs s identity logs
known_logs s identity logs e f =
    known_identity s identity e
    ∙ ap (λ r. r >>= with_logs s identity) f
    ∙ regroup (tables_in s) (skips_in s) (λ rows. rows_in rows s) (λ skips tables. applied_in s >>=
    λ applied. marks_in logs applied.0 s >>= λ mark. Ok (state_of identity logs skips tables applied mark))

pub known_contents : (s : Store) (identity : Identity) (logs : List LogEntry) (c : List Skip × Tables) →
    standby_in s ≡ Ok identity → logs_in identity s ≡ Ok logs → contents_in s ≡ Ok c →
    state_in s ≡ (applied_in s >>= λ applied. marks_in logs applied.0 s >>=
    λ mark. Ok (state_of identity logs c.0 c.1 applied mark))
known_contents s identity logs c e f g =
    known_logs s identity logs e f
    ∙ ap (λ r. r >>= λ (x : List Skip × Tables). applied_in s >>= λ applied. marks_in logs applied.0 s >>=
    λ mark. Ok (state_of identity logs x.0 x.1 applied mark)) g

pub known_applied : (s : Store) (identity : Identity) (logs : List LogEntry) (c : List Skip × Tables) (applied : Applied) →
    standby_in s ≡ Ok identity → logs_in identity s ≡ Ok logs → contents_in s ≡ Ok c → applied_in s ≡ Ok applied →
    state_in s ≡ (marks_in logs applied.0 s >>= λ mark. Ok (state_of identity logs c.0 c.1 applied mark))
known_applied s identity logs c applied e f g h =
    known_contents s identity logs c e f g
    ∙ ap (λ r. r >>= λ (a : Applied). marks_in logs a.0 s >>= λ mark. Ok (state_of identity logs c.0 c.1 a mark)) h

pub known_mark : (s : Store) (identity : Identity) (logs : List LogEntry) (c : List Skip × Tables) (applied : Applied)
    (mark : Option Mark) → standby_in s ≡ Ok identity → logs_in identity s ≡ Ok logs → contents_in s ≡ Ok c →
    applied_in s ≡ Ok applied → marks_in logs applied.0 s ≡ Ok mark → state_in s ≡ Ok
    (state_of identity logs c.0 c.1 applied mark)
known_mark s identity logs c applied mark e f g h i =
    known_applied s identity logs c applied e f g h
    ∙ ap (λ r. r >>= λ (m : Option Mark). Ok (state_of identity logs c.0 c.1 applied m)) i

-- ---- the first log

no-fault : {F : Type 0} (o : Option F) → no_fault o ≡ true → o ≡ None
no-fault None e = refl
no-fault (Some f) e = absurd (cc)

-- a log that is taken has the sequence of its key
taken_seq : (i : Identity) (before next : List LogEntry) (key value : List ℕ) → log_step i before (key, value) ≡ Some next →
    (e : LogEntry) × ((next ≡ before ++ e ∷ []) × (e.head.seq ≡ number_in w32 0 key))
taken_seq i before next key value given =
    let a = when-given ((length key == 4) && (length value == 48) && is_log_of i key value && nat_lt (length before) log_limit)
    (before ++ entry_with (header_in value) (number_in w64 40 value) ∷ []) next given in
    let good = and-right ((length key == 4) && (length value == 48)) (is_log_of i key value)
    (and-left ((length key == 4) && (length value == 48) && is_log_of i key value) (nat_lt (length before) log_limit) a.0) in
    let fault : header_fault (number_in w32 0 key) value ≡ None = no-fault (header_fault (number_in w32 0 key) value)
    (and-left _ _ (and-left _ _ (and-left _ _ good))) in
    (entry_with (header_in value) (number_in w64 40 value), (sym a.1, (header_passed (number_in w32 0 key) value fault).is))

found_more : (n : ℕ) (before : List LogEntry) (e : LogEntry) → is_some (entry_of n before) ≡ true →
    is_some (entry_of n (before ++ e ∷ [])) ≡ true
found_more n [] e is = absurd (cc)
found_more n (x ∷ before) e is =
    elim (x.head.seq == n) as (λ b. is_some (cond b (Some x) (entry_of n before)) ≡ true →
    is_some (cond b (Some x) (entry_of n (before ++ e ∷ []))) ≡ true) [
      | true ↦ λ given. refl
      | false ↦ λ given. found_more n before e given
    ] is

found_last : (n : ℕ) (before : List LogEntry) (e : LogEntry) → (e.head.seq == n) ≡ true →
    is_some (entry_of n (before ++ e ∷ [])) ≡ true
found_last n [] e is = ap (λ b. is_some (cond b (Some e) None)) is
found_last n (x ∷ before) e is =
    elim (x.head.seq == n) as (λ b. is_some (cond b (Some x) (entry_of n (before ++ e ∷ []))) ≡ true) [
      | true ↦ refl
      | false ↦ found_last n before e is
    ]

same_number : (n : ℕ) (key : List ℕ) (e : LogEntry) → n < 2 ^ 32 → same_bytes key (be32 n) ≡ true →
    e.head.seq ≡ number_in w32 0 key → (e.head.seq == n) ≡ true
same_number n key e f same is =
    let own : number_in w32 0 key ≡ n = ap (number_in w32 0) (bytes_is key (be32 n) same) ∙ from_be_bytes-to_be_bytes_4 n f in
    let seq : e.head.seq ≡ n = is ∙ own in
    grind (arith, nat_tests, seq)

either : (a b : Bool) → (a || b) ≡ true → (a ≡ true) ⊎ (b ≡ true)
either true b e = inl refl
either false b e = inr e

-- a log whose key is among the pairs is there once they are read
pub log_is_there : (i : Identity) (n : ℕ) (before logs : List LogEntry) (ps : List KeyValue) → n < 2 ^ 32 →
    read_area 2 (log_step i) before ps ≡ Ok logs → (is_some (entry_of n before) ≡ true) ⊎ (has_key (be32 n) ps ≡ true) →
    is_some (entry_of n logs) ≡ true
log_is_there i n before logs [] f e (inl there) = ap (λ ls. is_some (entry_of n ls)) (sym (ok-same before logs e)) ∙ there
log_is_there i n before logs [] f e (inr there) = absurd (cc)
log_is_there i n before logs (p ∷ ps) f e (inl there) =
    let a = step-given 2 (log_step i) before logs p ps e in
    let b = taken_seq i before a.0 p.0 p.1 a.1.0 in
    log_is_there i n a.0 logs ps f a.1.1 (inl (ap (λ ls. is_some (entry_of n ls)) b.1.0 ∙ found_more n before b.0 there))
log_is_there i n before logs (p ∷ ps) f e (inr there) =
    let a = step-given 2 (log_step i) before logs p ps e in
    let b = taken_seq i before a.0 p.0 p.1 a.1.0 in
    elim (either (same_bytes p.0 (be32 n)) (has_key (be32 n) ps) there) [
      | inl same ↦ log_is_there i n a.0 logs ps f a.1.1
          (inl (ap (λ ls. is_some (entry_of n ls)) b.1.0 ∙ found_last n before b.0 (same_number n p.0 b.0 f same b.1.1)))
      | inr later ↦ log_is_there i n a.0 logs ps f a.1.1 (inr later)
    ]
