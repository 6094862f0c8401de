use Rattle.field_space.proofs.extension.AnyPackedFieldExtension.add_assign_lane.Goals as goal

pub returns : goal.returns
returns g c = g.met.E.Represented.add_law c.args.self.now c.args.element c.add.result c.add.ensures
