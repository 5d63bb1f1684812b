-- An option that holds something.
use Rattle.std.proofs.Common.{◌≡◌, true, false, is_some, Some, None, Option, sym, refl}
use borrow.Author.Tests.{clash}

pub some_held : {X : Type 0} (o : Option X) → is_some o ≡ true → (x : X) × (o ≡ Some x)
some_held None h = absurd (clash h)
some_held (Some x) h = (x, refl)

pub none_held : {X : Type 0} (o : Option X) → is_some o ≡ false → o ≡ None
none_held None h = refl
none_held (Some x) h = absurd (clash (sym h))
