use Rattle.recovery.proofs.Each.{each_opening}
use Rattle.recovery.proofs.NotBoth.{not_formed, not_version}
use Rattle.recovery.proofs.OneLoading.{one_loading}
use Rattle.recovery.proofs.OneRefusal.{one_place}
use Rattle.recovery.proofs.OneVersion.{not_refused_too, one_version}
use Rattle.recovery.proofs.laws.images_have_one_loading.Goals as goal

pub returns-clause-one : goal.returns-clause-one
returns-clause-one c = one_loading

pub returns-clause-not_refused : goal.returns-clause-not_refused
returns-clause-not_refused c = λ image loaded region place is. not_formed image loaded is region place

pub returns-clause-not_other : goal.returns-clause-not_other
returns-clause-not_other c = λ image loaded version is. not_version image loaded is version

pub returns-clause-each : goal.returns-clause-each
returns-clause-each c = each_opening c.manifests_have_one_reading.ensures.each

pub returns-clause-refused : goal.returns-clause-refused
returns-clause-refused c = one_place

pub returns-clause-version : goal.returns-clause-version
returns-clause-version c = one_version

pub returns-clause-not_both : goal.returns-clause-not_both
returns-clause-not_both c = λ image region place version refused other. not_refused_too image version other region place refused
