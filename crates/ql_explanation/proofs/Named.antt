-- What the effects of an execution name.
use Rattle.std.proofs.Common.{◌≡◌, ℕ, zero, suc, ◌<◌, List, length, Some, subst}
use Rattle.std.proofs.lemmas.Option.{get_or_from_slice_get, slice_get_within}
use Rattle.ql_exec.specs.declared.effect.Effect.{Effect}
use Rattle.ql_exec.specs.Effects.{effect_at}
use Rattle.ql_lang.specs.declared.program.Program.{Program}
use Rattle.ql_report.specs.EffectTexts.{AreNamed, IsNamed}
use Rattle.ql_typing.specs.Operations.{all_ops}

pub named_at : (p : Program) (x : List Effect) (id : ℕ) (e : Effect) → AreNamed p 7 x → effect_at x id ≡ Some e → IsNamed p 7 e
named_at p x zero e all at = absurd (cc)
named_at p x (suc k) e all at = subst (IsNamed p 7) (get_or_from_slice_get x k e e at) (all k e (slice_get_within x k e at))

pub op_named_at : (p : Program) (x : List Effect) (id : ℕ) (e : Effect) → AreNamed p 7 x → effect_at x id ≡ Some e → e.op.0 < length (all_ops p.types)
op_named_at p x id e all at = (named_at p x id e all at).op
