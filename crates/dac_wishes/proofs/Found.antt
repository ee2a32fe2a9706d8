-- Presence of values: through a reference, of a result without error, and of permits at a key.
use Rattle.std.proofs.Common.{◌≡◌, Bool, false, List, [], ◌∷◌, length, nat_eq, Option, Some, None, Result, Ok, Err, is_some, Bor, refl, subst}
use Rattle.std.specs.Prelude.{IsOk, IfOk, IfErr, OnErr}
use Rattle.std.specs.Option.{option_copied}
use Rattle.std.specs.List.{list_all}
use Rattle.std.proofs.lemmas.Bool.{true≢false}
use Rattle.dac_origins.specs.declared.dot.Dot.{Dot}
use Rattle.dac_lattice.specs.declared.flags.Flag.{Flag}
use Rattle.dac_wishes.specs.PermissionsValue.{is_permitting, is_permitted_by}

pub is_some-copied : {X : Type 0} (o : Option (Bor X)) → is_some o ≡ is_some (option_copied o)
is_some-copied None = refl
is_some-copied (Some x) = refl

-- if each error contradicts a fact that holds, there is no error
pub no_error : {X E : Type 0} (P : E → Type 0) (H : Type 0) (r : Result X E) → IfErr r (λ e. P e × ¬ H) → H → IsOk r
no_error P H (Ok x) f h = refl
no_error P H (Err e) f h = absurd (f.1 h)

-- a property of each successful value holds of the result's
pub said_of : {X E : Type 0} (P : X → Type 0) (r : Result X E) (x : X) → IfOk r P → r ≡ Ok x → P x
said_of P r x f e = subst (λ s. IfOk s P) e f

-- what holds anyway holds after an error
pub on_err : {X E : Type 0} (r : Result X E) (P : Type 0) → P → OnErr r P
on_err (Ok x) P p = tt
on_err (Err e) P p = p

-- if there are permits, all must be true
pub by_permits : (default : Bool) (ps : List (Dot × Flag)) → nat_eq (length ps) 0 ≡ false → is_permitted_by default ps ≡ list_all (λ (p : Dot × Flag). is_permitting p.1) ps
by_permits default [] e = absurd (true≢false e)
by_permits default (p ∷ ps) e = refl
