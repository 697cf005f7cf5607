use Rattle.std.proofs.Common.{inr, subst}
use Rattle.coord_commands.proofs.Endings.{serves_weaker}
use Rattle.coord_commands.proofs.Opening.{of_ending}
use Rattle.coord_commands.specs.Folders.{reads}
use Rattle.coord_commands.specs.Serving.{IsOfServing, ServesAt}
use Rattle.coord_commands.specs.Arguments.{serve}
use Rattle.coord_commands.proofs.commands.carry_out.Goals as goal

-- `serve` runs with the same folder and streams
pub returns-in-Err : goal.returns-in-Err
returns-in-Err g c =
    let file = c.in-Err.left.file.now in
    let address = c.in-Err.left.address.now in
    let status = c.serve_in.result in
    let errors = c.serve_in.new.streams.known.errors in
    let after = g.F.Folder.holds c.serve_in.new.folder file in
    let served = serves_weaker _ (IsOfServing (reads (g.F.Folder.holds c.run_in.new.folder file))) address _ (reads after) status _ errors (of_ending _ _ _ _ _) c.serve_in.ensures.served in
    inr (
      serve file address,
      c.in-Err.ensures.left,
      subst (λ s. ServesAt (IsOfServing (reads (g.F.Folder.holds c.args.folder.now file))) address (reads (g.F.Folder.holds c.args.folder.now file)) (reads after) status s.known.errors errors) c.in-Err.ensures.unprinted
          (subst (λ f. ServesAt (IsOfServing (reads (g.F.Folder.holds f file))) address (reads (g.F.Folder.holds f file)) (reads after) status c.run_in.new.streams.known.errors errors) c.in-Err.ensures.unopened served),
    )
