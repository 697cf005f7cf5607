use Rattle.std.proofs.Common.{◌≡◌, ◌∙◌, Some, inl, inr, map, rules, string_bytes, subst, sym}
use Rattle.coord_commands.proofs.Endings.{ends_weaker}
use Rattle.coord_commands.proofs.RefusedArguments.{refused_arguments}
use Rattle.coord_commands.specs.Migrating.{EndsMigrating}
use Rattle.coord_commands.specs.Arguments.{migrate, task_of}
use Rattle.coord_commands.proofs.running.run_in.Goals as goal

pub returns-in-Err-clause-done : goal.returns-in-Err-clause-done
returns-in-Err-clause-done g c =
    rw (← c.streams.view_is)
    (inl (refused_arguments (map string_bytes c.args.arguments.now) c.in-Err.fault c.report.result (g.R.Read.remaining c.streams.inside.input) (g.W.Write.contents c.streams.inside.output) (g.E.Write.contents c.streams.inside.errors)
    (g.E.Write.contents c.report.new.errors) (g.F.Folder.holds c.args.folder.now) (g.F.Folder.says c.args.folder.now) c.in-Err.ensures.err c.report.ensures.status c.report.ensures.answered))

pub returns-in-Ok-Migrate-clause-done : goal.returns-in-Ok-Migrate-clause-done
returns-in-Ok-Migrate-clause-done g c =
    let asked : task_of (map string_bytes c.args.arguments.now) ≡ Some (migrate c.in-Ok-Migrate.file.now) = search rules in
    inr (migrate c.in-Ok-Migrate.file.now, asked, ends_weaker _ _ _ _ c.migrate_in.result _ _ (λ fault is. is.0) (λ line is. is.0) c.migrate_in.ensures.ended)

pub returns-in-Err-clause-moments : goal.returns-in-Err-clause-moments
returns-in-Err-clause-moments g c = λ file asks.
    rw (← c.streams.view_is)
    (inl (refused_arguments (map string_bytes c.args.arguments.now) c.in-Err.fault c.report.result (g.R.Read.remaining c.streams.inside.input) (g.W.Write.contents c.streams.inside.output) (g.E.Write.contents c.streams.inside.errors)
    (g.E.Write.contents c.report.new.errors) (g.F.Folder.holds c.args.folder.now) (g.F.Folder.says c.args.folder.now) c.in-Err.ensures.err c.report.ensures.status c.report.ensures.answered))

pub returns-in-Ok-Migrate-clause-moments : goal.returns-in-Ok-Migrate-clause-moments
returns-in-Ok-Migrate-clause-moments g c = λ file asks.
    let asked : task_of (map string_bytes c.args.arguments.now) ≡ Some (migrate c.in-Ok-Migrate.file.now) = search rules in
    let both : Some (migrate c.in-Ok-Migrate.file.now) ≡ Some (migrate file) = sym asked ∙ asks in
    let same : c.in-Ok-Migrate.file.now ≡ file = cc in
    inr (subst (λ name. EndsMigrating g.F.Disk.Disk.model (g.F.Folder.holds c.args.folder.now name) (g.F.Folder.holds c.migrate_in.new.folder name) c.migrate_in.result c.args.streams.now.known c.migrate_in.new.streams.known) same c.migrate_in.ensures.ended)
