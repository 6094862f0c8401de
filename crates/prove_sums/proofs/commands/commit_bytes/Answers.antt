use Rattle.prove_sums.proofs.commands.commit_bytes.Goals as goal

pub returns : goal.returns
returns g c =
    let made = c.in_ok-_shape.ensures in
    record {
      queries = c.in_ok-_shape._shape.queries;
      rounds = c.in_ok-_shape._shape.rounds;
      elements = c.in_ok-_shape._committed.elements.items;
      columns = c.in_ok-_shape._committed.held.columns.items;
      sized = made.sized;
      table = made.table;
      commits = made.root;
    }
