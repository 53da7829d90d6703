-- The request that a plan is.
use Rattle.myisamkit.specs.declared.words.Plan.{Plan}
use Rattle.myisamkit.specs.declared.words.Plan.TheVariants as plan
use Rattle.myisamkit.specs.Words.{Request, usage, chk, create, dump, make, shell}
use Rattle.myisamkit.specs.Reading.{tables_named}

abbrev pub asked : Plan → Request
asked plan.Usage = usage
asked (plan.Create name file) = create name.now file.now
asked (plan.Dump name) = dump name.now
asked (plan.Make rows name) = make rows.count rows.seed name.now
asked (plan.Chk options words) = chk options (tables_named words.now)
asked (plan.Shell job) = shell job.options job.name.now job.script.now
