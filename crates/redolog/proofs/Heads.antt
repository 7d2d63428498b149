-- The header of a log that is shown, and the records behind it.
use Rattle.std.proofs.Common.{◌≡◌, ℕ, Bool, true, false, List, [], ◌∷◌, ◌++◌, take, drop, Option, Some, None, Result, Ok, Err, OnOk, IfOk, refl, sym, ap, subst, ◌∙◌}
use Rattle.std.specs.Prelude.{is_some}
use Rattle.std.specs.List.{concat}
use Rattle.std.specs.Io.KnownBytes.{Appends}
use Rattle.std.proofs.KnownBytes.{Appends-trans}
use Rattle.std.proofs.lemmas.List.{append-nil}
use Rattle.rl_ports.specs.Faults.{Told}
use Rattle.rl_value.specs.declared.cause.HeadFault.{HeadFault}
use Rattle.rl_value.specs.Outcome.{refused_by}
use Rattle.redo_spec.specs.declared.header.Header.{Header}
use Rattle.redo_spec.specs.LogHeader.{header_in}
use Rattle.redo_spec.specs.Redo.{records_in}
use Rattle.redo_text.specs.declared.fault_line.LogFault.TheVariants as faults
use Rattle.redo_text.specs.FaultLine.{fault_line}
use Rattle.redo_text.specs.Showing.{heading_text}
use Rattle.redo_text.specs.Streaming.{shown_at, pieces_ended}
use Rattle.redolog.specs.Showing.{own_fault, lines_or_fault, head_there, front_text, head_text, rest_text, records_or_none, log_text, rest_ended, has_head_fault, records_fault, has_fault}

abbrev headed : Header → Result Header HeadFault
headed h = Ok h

ok_is : (x y : Header) → headed x ≡ headed y → x ≡ y
ok_is x y e = cc

abbrev refused : HeadFault → Result Header HeadFault
refused f = Err f

err_is : (x y : HeadFault) → refused x ≡ refused y → x ≡ y
err_is x y e = cc

ok_text_by : (o : Option HeadFault) (front text : List ℕ) (head : Header) → headed head ≡ refused_by o (header_in front) →
    text ≡ heading_text head → text ≡ lines_or_fault o front
ok_text_by None front text head is shown = shown ∙ ap heading_text (ok_is head (header_in front) is)
ok_text_by (Some fault) front text head is shown = absurd cc

pub ok_text : (front text : List ℕ) (head : Header) → headed head ≡ refused_by (own_fault front) (header_in front) →
    text ≡ heading_text head → text ≡ front_text front
ok_text front text head is shown = ok_text_by (own_fault front) front text head is shown

ok_head_by : (o : Option HeadFault) (front : List ℕ) (head : Header) → headed head ≡ refused_by o (header_in front) →
    Some head ≡ head_there o front
ok_head_by None front head is = ap Some (ok_is head (header_in front) is)
ok_head_by (Some fault) front head is = absurd cc

pub ok_head : (front : List ℕ) (head : Header) → headed head ≡ refused_by (own_fault front) (header_in front) →
    Some head ≡ head_there (own_fault front) front
ok_head front head is = ok_head_by (own_fault front) front head is

err_text_by : (o : Option HeadFault) (front text : List ℕ) (fault : HeadFault) → refused fault ≡ refused_by o (header_in front) →
    text ≡ fault_line 1 (faults.Head fault) 0 (take 16 front) → text ≡ lines_or_fault o front
err_text_by None front text fault is shown = absurd cc
err_text_by (Some f) front text fault is shown =
    shown ∙ ap (λ (g : HeadFault). fault_line 1 (faults.Head g) 0 (take 16 front)) (err_is fault f is)

pub err_text : (front text : List ℕ) (fault : HeadFault) → refused fault ≡ refused_by (own_fault front) (header_in front) →
    text ≡ fault_line 1 (faults.Head fault) 0 (take 16 front) → text ≡ front_text front
err_text front text fault is shown = err_text_by (own_fault front) front text fault is shown

err_head_by : (o : Option HeadFault) (front : List ℕ) (fault : HeadFault) → refused fault ≡ refused_by o (header_in front) →
    head_there o front ≡ None
err_head_by None front fault is = absurd cc
err_head_by (Some f) front fault is = refl

pub err_head : (front : List ℕ) (fault : HeadFault) → refused fault ≡ refused_by (own_fault front) (header_in front) →
    head_there (own_fault front) front ≡ None
err_head front fault is = err_head_by (own_fault front) front fault is

-- ---- what a source tells

pub told_front : (o : Option (List ℕ)) (front text : List ℕ) (old new : Option (List ℕ)) → Told o (λ all. front ≡ take 40 all) →
    text ≡ front_text front → Appends old new text → Told o (λ all. Appends old new (head_text all))
told_front None front text old new is shown wrote = tt
told_front (Some all) front text old new is shown wrote = subst (Appends old new) (shown ∙ ap front_text is) wrote

pub told_head : (o : Option (List ℕ)) (front : List ℕ) (head : Option Header) → Told o (λ all. front ≡ take 40 all) →
    head ≡ head_there (own_fault front) front → Told o (λ all. head ≡ head_there (own_fault (take 40 all)) (take 40 all))
told_head None front head is there = tt
told_head (Some all) front head is there = there ∙ ap (λ (f : List ℕ). head_there (own_fault f) f) is

behind : (h : Header) (old mid new : Option (List ℕ)) (all : List ℕ) → Appends old mid (head_text all) →
    Some h ≡ head_there (own_fault (take 40 all)) (take 40 all) → Appends mid new (rest_text (shown_at h) (drop 40 all)) →
    Appends old new (log_text all)
behind h old mid new all front there rest =
    let whole : head_text all ++ rest_text (shown_at h) (drop 40 all) ≡ log_text all =
    ap (λ (o : Option Header). head_text all ++ records_or_none o (drop 40 all)) there in
    subst (Appends old new) whole (Appends-trans old mid new (head_text all) (rest_text (shown_at h) (drop 40 all)) front rest)

pub told_log : {T E : Type 0} (o left : Option (List ℕ)) (h : Header) (old mid new : Option (List ℕ)) (r : Result T E) →
    Told o (λ all. Appends old mid (head_text all)) →
    Told o (λ all. Some h ≡ head_there (own_fault (take 40 all)) (take 40 all)) → Told o (λ all. left ≡ Some (drop 40 all)) →
    Told left (λ rest. OnOk r (Appends mid new (rest_text (shown_at h) rest))) →
    Told o (λ all. OnOk r (Appends old new (log_text all)))
told_log None left h old mid new r front there left_is rest = tt
told_log (Some all) left h old mid new (Err e) front there left_is rest = tt
told_log (Some all) left h old mid new (Ok x) front there left_is rest =
    let told = subst (λ (l : Option (List ℕ)). Told l (λ r. Appends mid new (rest_text (shown_at h) r))) left_is rest in
    behind h old mid new all front there told

-- no record is shown behind a header with a fault
pub told_none : (o old new : Option (List ℕ)) → Told o (λ all. Appends old new (head_text all)) →
    Told o (λ all. None ≡ head_there (own_fault (take 40 all)) (take 40 all)) → Told o (λ all. Appends old new (log_text all))
told_none None old new front there = tt
told_none (Some all) old new front there =
    let whole : head_text all ≡ log_text all = sym (append-nil (head_text all))
    ∙ ap (λ (o : Option Header). head_text all ++ records_or_none o (drop 40 all)) there in
    subst (Appends old new) whole front

-- ---- whether there is a fault

head_some_by : (o : Option HeadFault) (front : List ℕ) (h : Header) → Some h ≡ head_there o front → false ≡ is_some o
head_some_by None front h there = refl
head_some_by (Some fault) front h there = absurd cc

pub told_head_whole : (o : Option (List ℕ)) (h : Header) →
    Told o (λ all. Some h ≡ head_there (own_fault (take 40 all)) (take 40 all)) → Told o (λ all. false ≡ has_head_fault all)
told_head_whole None h there = tt
told_head_whole (Some all) h there = head_some_by (own_fault (take 40 all)) (take 40 all) h there

head_none_by : (o : Option HeadFault) (front : List ℕ) → None ≡ head_there o front → true ≡ is_some o
head_none_by None front there = absurd cc
head_none_by (Some fault) front there = refl

pub told_head_fault : (o : Option (List ℕ)) → Told o (λ all. None ≡ head_there (own_fault (take 40 all)) (take 40 all)) →
    Told o (λ all. true ≡ has_head_fault all)
told_head_fault None there = tt
told_head_fault (Some all) there = head_none_by (own_fault (take 40 all)) (take 40 all) there

pub told_none_fault : (o : Option (List ℕ)) → Told o (λ all. None ≡ head_there (own_fault (take 40 all)) (take 40 all)) →
    Told o (λ all. true ≡ has_fault all)
told_none_fault None there = tt
told_none_fault (Some all) there = ap (λ (h : Option Header). records_fault h (drop 40 all)) there

-- the law of `redo_text`
abbrev pub Exact : Type 0
Exact = (h : Header) (pieces : List (List ℕ)) →
    pieces_ended (shown_at h) pieces ≡ is_some (records_in h h.count (concat pieces)).cause

rest_exact : Exact → (h : Header) (rest : List ℕ) → rest_ended (shown_at h) rest ≡ is_some (records_in h h.count rest).cause
rest_exact exact h [] = exact h []
rest_exact exact h (b ∷ rest) =
    exact h ((b ∷ rest) ∷ []) ∙ ap (λ (t : List ℕ). is_some (records_in h h.count t).cause) (append-nil (b ∷ rest))

pub told_log_fault : {E : Type 0} → Exact → (o left : Option (List ℕ)) (h : Header) (r : Result Bool E) →
    Told o (λ all. Some h ≡ head_there (own_fault (take 40 all)) (take 40 all)) → Told o (λ all. left ≡ Some (drop 40 all)) →
    Told left (λ rest. IfOk r (λ faulty. faulty ≡ rest_ended (shown_at h) rest)) →
    Told o (λ all. IfOk r (λ faulty. faulty ≡ has_fault all))
told_log_fault exact None left h r there left_is rest = tt
told_log_fault exact (Some all) left h (Err e) there left_is rest = tt
told_log_fault exact (Some all) left h (Ok faulty) there left_is rest =
    let told = subst (λ (l : Option (List ℕ)). Told l (λ r. faulty ≡ rest_ended (shown_at h) r)) left_is rest in
    told ∙ rest_exact exact h (drop 40 all) ∙ ap (λ (o : Option Header). records_fault o (drop 40 all)) there
