-- Laws of a group that is made ready: it is ready where each of its commits is within the limit, and is refused else.
use Rattle.std.proofs.Common.{◌≡◌, ℕ, suc, ◌+◌, ◌<◌, List, [], ◌∷◌, ◌++◌, length, Bool, true, false, not, refl, sym, ap, ◌∙◌, subst, Some, None, Ok, Err, arith}
use Rattle.std.specs.Prelude.{◌==◌, nat_lt, IfSome}
use Rattle.std.proofs.lemmas.Bool.Decides.{nat_tests}
use Rattle.rl_value.specs.Outcome.{first_fault}
use Rattle.rl_ports.specs.declared.batch.Item.{Item}
use Rattle.rl_ports.specs.Store.{have_keys, after_batch}
use Rattle.row_apply.specs.Soundness.{AreSound}
use Rattle.table_store.specs.Stored.{TableSet}
use Rattle.standby_spec.specs.KeptState.{KeptState}
use Rattle.standby_spec.specs.Layout.{applied_item}
use Rattle.standby_spec.specs.Refusals.{Refusal, NotNext, RowLimitAfter, front_of, group_refusal}
use Rattle.standby_spec.proofs.StoreLaws.{same_nat}
use Rattle.eager_work.specs.declared.commit.Commit.{Commit}
use Rattle.publisher.specs.declared.fault.GroupFault.{GroupFault}
use Rattle.publisher.specs.declared.fault.GroupFault.TheVariants as faults
use Rattle.publisher.specs.declared.merged.Merged.{Merged}
use Rattle.publisher.specs.declared.prepared.Prepared.{Prepared}
use Rattle.publisher.specs.Groups.{IsGroup, are_numbered, first_number, parts_of}
use Rattle.publisher.specs.MergedRows.{items_in}
use Rattle.publisher.specs.PreparesGroup.{PreparesGroup, MakesAll, StopsBy, IsBehind, tables_behind_all, rows_of_all, count_within, last_number, last_scn}
use Rattle.publisher.specs.Shown.{shown_next, with_commits}
use Rattle.publisher.proofs.Merging.{Follow, front-length, state-behind, leads-alike, group-key}

neither-is : (a b : Bool) (x y : Refusal) → a ≡ false → b ≡ false → first_fault ((a, x) ∷ (b, y) ∷ []) ≡ None
neither-is true b x y e f = absurd (cc)
neither-is false true x y e f = absurd (cc)
neither-is false false x y e f = refl

first-is : (a b : Bool) (x y : Refusal) → a ≡ true → first_fault ((a, x) ∷ (b, y) ∷ []) ≡ Some x
first-is true b x y e = refl
first-is false b x y e = absurd (cc)

second-is : (a b : Bool) (x y : Refusal) → a ≡ false → b ≡ true → first_fault ((a, x) ∷ (b, y) ∷ []) ≡ Some y
second-is true b x y e f = absurd (cc)
second-is false true x y e f = refl
second-is false false x y e f = absurd (cc)

pub parts-length : (cs : List Commit) → length (parts_of cs) ≡ length cs
parts-length [] = refl
parts-length (c ∷ cs) = ap (λ n. suc n) (parts-length cs)

not-less : (m n : ℕ) → m ≡ n → nat_lt m n ≡ false
not-less m n e = grind (arith, nat_tests)

is-fewer : (m n : ℕ) → m < n → nat_lt m n ≡ true
is-fewer m n e = grind (arith, nat_tests)

-- none of so many is past the limit
no-reason : (s : KeptState) (cs : List Commit) → (first_number cs == s.n + 1) ≡ true → count_within s.tables cs ≡ length cs →
    group_refusal s (first_number cs) (parts_of cs) ≡ None
no-reason s cs next within =
    neither-is (not (first_number cs == s.n + 1)) (nat_lt (length (front_of s (parts_of cs))) (length (parts_of cs)))
    (NotNext s.n) (RowLimitAfter (length (front_of s (parts_of cs)))) (ap not next)
    (not-less (length (front_of s (parts_of cs))) (length (parts_of cs)) (front-length s cs ∙ within ∙ sym (parts-length cs)))

makes-all : (s : KeptState) (cs : List Commit) (p : Prepared) → IsGroup cs → (first_number cs == s.n + 1) ≡ true →
    count_within s.tables cs ≡ length cs →
    p.batch ≡ items_in (rows_of_all [] s.tables cs) ++ applied_item (last_number cs) (last_scn cs) ∷ [] →
    shown_next p.next (Some s)
    ≡ Some (record s { tables = tables_behind_all s.tables cs; n = last_number cs; scn = last_scn cs }) → MakesAll s cs p
makes-all s [] p group next within batch shown = absurd (omega (arith, group.some))
makes-all s (c ∷ cs) p group next within batch shown =
    let follow : Follow s (c ∷ cs) = record {
      numbered = subst (λ n. are_numbered n (c ∷ cs) ≡ true) (same_nat c.number (s.n + 1) next) group.numbered;
      within = within;
    } in
    record {
      items = λ pairs is. ap (λ items. after_batch items pairs) batch ∙ leads-alike s c cs follow pairs is;
      next = shown ∙ sym (ap (λ x. Some x) (state-behind s c cs follow));
    }

-- a group each of whose commits is within the limit is ready
pub group-ok : (s : KeptState) (cs : List Commit) (p : Prepared) → IsGroup cs → (first_number cs == s.n + 1) ≡ true →
    count_within s.tables cs ≡ length cs →
    p.batch ≡ items_in (rows_of_all [] s.tables cs) ++ applied_item (last_number cs) (last_scn cs) ∷ [] →
    shown_next p.next (Some s)
    ≡ Some (record s { tables = tables_behind_all s.tables cs; n = last_number cs; scn = last_scn cs }) →
    AreSound (tables_behind_all s.tables cs) →
    PreparesGroup s cs (group_refusal s (first_number cs) (parts_of cs)) (Ok p)
group-ok s cs p group next within batch shown sound = record {
  made = makes-all s cs p group next within batch shown;
  declined = no-reason s cs next within;
  ready = record {
    keys = ap have_keys batch ∙ group-key s.tables cs (last_number cs) (last_scn cs);
    sound = subst (λ o. IfSome o (λ t. AreSound t.tables)) (sym shown) sound;
  };
}

-- it is refused where its first commit is not the next one
pub group-not-next : (s : KeptState) (cs : List Commit) → (first_number cs == s.n + 1) ≡ false →
    PreparesGroup s cs (group_refusal s (first_number cs) (parts_of cs)) (Err (faults.NotNext s.n))
group-not-next s cs other = record {
  made = refl;
  declined = first-is (not (first_number cs == s.n + 1))
      (nat_lt (length (front_of s (parts_of cs))) (length (parts_of cs)))
      (NotNext s.n) (RowLimitAfter (length (front_of s (parts_of cs)))) (ap not other);
  ready = tt;
}

-- and where one of them passes the limit
pub group-stops : (s : KeptState) (cs : List Commit) (fault : GroupFault) → (first_number cs == s.n + 1) ≡ true →
    StopsBy s.tables cs fault → PreparesGroup s cs (group_refusal s (first_number cs) (parts_of cs)) (Err fault)
group-stops s cs faults.KeeperFault next stops = absurd stops
group-stops s cs (faults.NotNext n) next stops = absurd stops
group-stops s cs (faults.RowLimitAfter n) next stops =
    let many : length (front_of s (parts_of cs)) ≡ n = front-length s cs ∙ sym stops.count in
    record {
      made = refl;
      declined = second-is (not (first_number cs == s.n + 1))
          (nat_lt (length (front_of s (parts_of cs))) (length (parts_of cs)))
          (NotNext s.n) (RowLimitAfter (length (front_of s (parts_of cs)))) (ap not next)
          (is-fewer (length (front_of s (parts_of cs))) (length (parts_of cs))
          (subst (λ m. m < length (parts_of cs)) (sym many) (subst (λ m. n < m) (sym (parts-length cs)) stops.fewer)))
          ∙ ap (λ m. Some (RowLimitAfter m)) many;
      ready = tt;
    }
group-stops s cs faults.Memory next stops = record { made = refl; declined = tt; ready = tt }

-- want of memory is no reason
pub group-memory : (s : KeptState) (cs : List Commit) →
    PreparesGroup s cs (group_refusal s (first_number cs) (parts_of cs)) (Err faults.Memory)
group-memory s cs = record { made = refl; declined = tt; ready = tt }

-- commits whose tables and rows are made are ready
pub group-made : (s : KeptState) (cs given : List Commit) (p : Prepared) (after : TableSet) (merged : Merged) (rows : List Item)
    (last : ℕ × ℕ) → given ≡ cs → IsGroup given → (first_number given == s.n + 1) ≡ true →
    IsBehind s.tables given after merged → last ≡ (last_number given, last_scn given) → rows ≡ items_in merged.items.entries →
    p.batch ≡ rows ++ applied_item last.0 last.1 ∷ [] →
    shown_next p.next (Some s) ≡ Some (with_commits after.tables last.0 last.1 s) →
    PreparesGroup s cs (group_refusal s (first_number cs) (parts_of cs)) (Ok p)
group-made s cs given p after merged rows last same group next behind last_is rows_are batch shown =
    let all : rows ≡ items_in (rows_of_all [] s.tables given) = rows_are ∙ ap items_in behind.rows_are in
    subst (λ (ds : List Commit). PreparesGroup s ds (group_refusal s (first_number ds) (parts_of ds)) (Ok p)) same
    (group-ok s given p group next behind.within
    (batch ∙ (λ i. all i ++ applied_item (last_is i).0 (last_is i).1 ∷ []))
    (shown ∙ (λ i. Some (with_commits (behind.tables_are i) (last_is i).0 (last_is i).1 s)))
    (subst AreSound behind.tables_are behind.sound))
