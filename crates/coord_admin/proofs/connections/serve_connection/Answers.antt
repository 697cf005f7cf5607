use Rattle.coord_admin.proofs.connections.serve_connection.Goals as goal

pub returns-clause-served : goal.returns-clause-served
returns-clause-served g c = λ before called.
    let gone = c.serve-ended.ensures.served in
    (record { bytes_read = gone.0; bytes_written = gone.1 }, c.end.ensures.talked before c.args.line gone.0 gone.1 called gone.2, (c.requires.young, gone.3, c.serve-ended.ensures.cut))
