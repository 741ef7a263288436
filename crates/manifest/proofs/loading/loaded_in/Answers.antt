use Rattle.std.proofs.Common.{◌∙◌, Option, Ok, ap, subst, arith}
use Rattle.gate_log.specs.Places.{region_of}
use Rattle.gate_log.specs.Reading.{IsFront}
use Rattle.device_layout.specs.Layouts.{half_of}
use Rattle.gate_log.specs.Reading.{payloads_of}
use Rattle.manifest.specs.Loading.{base_as}
use Rattle.manifest.specs.Views.{metadata_as}
use Rattle.manifest.specs.declared.base.Base.{Base}
use Rattle.manifest.proofs.ApartLemmas.{all_apart}
use Rattle.manifest.proofs.HeadLemmas.{closed_is_not_in_force}
use Rattle.manifest.proofs.loading.loaded_in.Goals as goal

pub returns-in_default-clause-loaded : goal.returns-in_default-clause-loaded
returns-in_default-clause-loaded c = λ image force front. absurd (
    closed_is_not_in_force c.args.layout image c.args.half c.requires.one (omega (arith, c.requires.good.params.half.least))
    (subst (IsFront (region_of (half_of c.args.layout c.args.half) image)) c.in_default.is front) force)

pub returns-clause-apart : goal.returns-clause-apart
returns-clause-apart c =
    all_apart c.args.layout.stores 9 (payloads_of c.deref.result.now) (metadata_as c.in-Some-base.base)
    (c.in_ok-base.ensures ∙ ap (λ (b : Option Base). Ok (base_as b)) c.in-Some-base.is)
