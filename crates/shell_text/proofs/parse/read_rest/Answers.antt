use Rattle.std.proofs.Common.{refl}
use Rattle.shell_text.specs.declared.line.Line.TheVariants as line
use Rattle.shell_text.specs.declared.verb.Verb.TheVariants as verb
use Rattle.shell_text.specs.Texts.{texts}
use Rattle.shell_text.proofs.PartLemmas.{alone_read}
use Rattle.shell_text.proofs.parse.read_rest.Goals as goal

pub returns-in-Stores : goal.returns-in-Stores
returns-in-Stores c =
    alone_read c.args.verb verb.Stores line.Stores (texts c.args.rest.now) c.alone.result c.in-Stores.is (λ of told. told.1) (refl, tt) c.alone.ensures

pub returns-in-Write : goal.returns-in-Write
returns-in-Write c =
    alone_read c.args.verb verb.Write line.Write (texts c.args.rest.now) c.alone-in-Write.result c.in-Write.is (λ of told. told.1) (refl, tt) c.alone-in-Write.ensures

pub returns-in-End : goal.returns-in-End
returns-in-End c =
    alone_read c.args.verb verb.End line.End (texts c.args.rest.now) c.alone-in-End.result c.in-End.is (λ of told. told.1) (refl, tt) c.alone-in-End.ensures

pub returns-in-Sync : goal.returns-in-Sync
returns-in-Sync c =
    alone_read c.args.verb verb.Sync line.Sync (texts c.args.rest.now) c.alone-in-Sync.result c.in-Sync.is (λ of told. told.1) (refl, tt) c.alone-in-Sync.ensures

pub returns-in-Info : goal.returns-in-Info
returns-in-Info c =
    alone_read c.args.verb verb.Info line.Info (texts c.args.rest.now) c.alone-in-Info.result c.in-Info.is (λ of told. told.1) (refl, tt) c.alone-in-Info.ensures

pub returns-in-Reopen : goal.returns-in-Reopen
returns-in-Reopen c =
    alone_read c.args.verb verb.Reopen line.Reopen (texts c.args.rest.now) c.alone-in-Reopen.result c.in-Reopen.is (λ of told. told.1) (refl, tt) c.alone-in-Reopen.ensures
