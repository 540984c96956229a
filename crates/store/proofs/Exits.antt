-- What `?` returns.
use Rattle.std.proofs.Common.{◌≡◌, true, List, is_err, IsErrAnd, IfOk, Ok, Err, Result, ap, MatchResult}
use borrow.Author.Tests.{clash}
use Rattle.device.specs.declared.fault.DeviceFault.{DeviceFault}
use Rattle.device.specs.Disk.{Bytes, refused, refusal}
use Rattle.device.specs.Answers.{number, where_at}
use Rattle.layout.specs.declared.exception.Exception.{Exception}
use Rattle.store.specs.declared.fault.StoreFault.{StoreFault}
use Rattle.store.specs.declared.fault.StoreFault.TheVariants.{Device}
use Rattle.store.specs.declared.spot.Spot.{Spot}
use Rattle.store.specs.Refusals.{up}
use Rattle.store.specs.Answers.{told, gave, told_spot, numbers}

-- where a device refused with y
pub passed_up : {A B : Type 0} (r : Result A StoreFault) (b : B) (y : DeviceFault) → IsErrAnd r (λ x. x ≡ Device y) → told r b ≡ refused (up (refusal (number y) (where_at y)))
passed_up (Ok a) b y h = absurd h
passed_up (Err x) b y h = ap (λ z. refused (numbers z)) h

-- the same of a scan
pub scan_passed_up : (r : Result Spot StoreFault) (es : List Exception) (bytes : Bytes) (y : DeviceFault) → IsErrAnd r (λ x. x ≡ Device y) → told_spot r es bytes ≡ refused (up (refusal (number y) (where_at y)))
scan_passed_up (Ok a) es bytes y h = absurd h
scan_passed_up (Err x) es bytes y h = ap (λ z. refused (numbers z)) h

-- what holds where a call was refused
pub refused_case : {T E B : Type 0} (r : Result T E) (A : Type 0) → is_err r ≡ true → B → MatchResult r (λ _. A) (λ _. B)
refused_case (Ok a) A h b = absurd (clash h)
refused_case (Err e) A h b = b

-- what is said of good answers alone
pub not_good : {T E : Type 0} (r : Result T E) (P : T → Type 0) → is_err r ≡ true → IfOk r P
not_good (Ok a) P h = absurd (clash h)
not_good (Err e) P h = tt

-- where a call of the store refused with y
pub passed : {A B : Type 0} (r : Result A StoreFault) (b : B) (y : StoreFault) → IsErrAnd r (λ x. x ≡ y) → told r b ≡ refused (numbers y)
passed (Ok a) b y h = absurd h
passed (Err x) b y h = ap (λ z. refused (numbers z)) h

pub passed_value : {A : Type 0} (r : Result A StoreFault) (y : StoreFault) → IsErrAnd r (λ x. x ≡ y) → gave r ≡ refused (numbers y)
passed_value (Ok a) y h = absurd h
passed_value (Err x) y h = ap (λ z. refused (numbers z)) h
