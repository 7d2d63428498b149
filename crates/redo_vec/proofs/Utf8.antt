-- A text as reading tests it, and as `Txt` does.
use Rattle.std.proofs.Common.{◌≡◌, ℕ, zero, suc, ◌+◌, ◌-◌, ◌≤◌, Bool, true, false, cond, List, length, take, Ok, Err, refl, subst, arith}
use Rattle.std.specs.Str.{IsUtf8}
use Rattle.std.specs.Str.Lossy.{utf8_valid_len, valid_len_up_to}
use Rattle.std.proofs.lemmas.Str.{utf8_valid_len-IsUtf8, IsUtf8-from_is_utf8, IsUtf8-nil}
use Rattle.std.proofs.lemmas.Bool.{eq-eqb, ne_eqb}
use Rattle.std.proofs.lemmas.List.{length-append, take_all}
use Rattle.rl_value.specs.declared.value.Value.TheVariants.{Text}
use Rattle.rl_value.specs.declared.cause.VecFault.TheVariants as faults
use Rattle.redo_vec.specs.Reading.{content_at, text_at}

cond_le : (b : Bool) (m n : ℕ) → n ≤ m → cond b (suc m) n ≤ suc m
cond_le true m n h = omega arith
cond_le false m n h = omega arith

up_to_le : (bs : List ℕ) (m : ℕ) → valid_len_up_to bs m ≤ m
up_to_le bs zero = omega arith
up_to_le bs (suc m) = cond_le _ m (valid_len_up_to bs m) (up_to_le bs m)

cond_full : (b : Bool) (m n : ℕ) → n ≤ m → cond b (suc m) n ≡ suc m → b ≡ true
cond_full true m n h e = refl
cond_full false m n h e = absurd (omega arith)

up_to_full : (bs : List ℕ) (m : ℕ) → valid_len_up_to bs m ≡ m → IsUtf8 (take m bs)
up_to_full bs zero e = IsUtf8-nil
up_to_full bs (suc m) e = IsUtf8-from_is_utf8 _ (cond_full _ m (valid_len_up_to bs m) (up_to_le bs m) e)

pub utf8-is : (bs : List ℕ) → utf8_valid_len bs ≡ length bs → IsUtf8 bs
unfolding utf8_valid_len
utf8-is bs e = subst IsUtf8 (take_all (length bs) bs (omega arith)) (up_to_full bs (length bs) e)

pub text_read : (n : ℕ) (bytes text rest : List ℕ) → content_at n bytes ≡ Ok (text, rest) → IsUtf8 text →
    text_at n bytes ≡ Ok (Text text, rest)
unfolding text_at
text_read n bytes text rest e u = rw (e, eq-eqb _ _ (utf8_valid_len-IsUtf8 text u)) refl

pub text_refused : (n : ℕ) (bytes text rest : List ℕ) → content_at n bytes ≡ Ok (text, rest) → (IsUtf8 text → ⊥) →
    text_at n bytes ≡ Err (record { fault = faults.Utf8; place = n - (length text + length rest) })
unfolding text_at
text_refused n bytes text rest e u = rw (e, ne_eqb _ _ (λ h. u (utf8-is text h)), length-append text rest) refl
