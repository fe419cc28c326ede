-- `form::is_unended` reads the last byte, which is there since the size is not 0. Assumes nothing.
use native.Mathlib.Omega.{arith}
use mathlib.Core.Path.{refl}
use Rattle.text.specs.Refusals.{unended}
use Rattle.text.proofs.Tests.{size_some}
use Rattle.form.proofs.is_unended.Goals as goal

pub overflow_sub-result : goal.overflow_sub-result
overflow_sub-result c = omega (arith, size_some _ c.requires)

pub bounds-text-text : goal.bounds-text-text
bounds-text-text c = omega (arith, size_some _ c.requires)

pub returns : goal.returns
unfolding unended
returns c = refl
