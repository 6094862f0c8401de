use Rattle.std.proofs.Common.{length, lit≤}
use Rattle.test_elements.proofs.Sizes.{few_places, few_stages}
use Rattle.test_elements.proofs.tests.transforms.transform_of.Goals as goal

pub forward_with-requires : goal.forward_with-requires
forward_with-requires g c = few_places c.args.m (length c.args.values.now) 0 c.if-m-gt12.false c.if-values-m.false (lit≤ tt)

pub forward-requires : goal.forward-requires
forward-requires g c = few_places c.args.m (length c.args.values.now) 0 c.if-m-gt12.false c.if-values-m.false (lit≤ tt)

pub forward_numbers-requires : goal.forward_numbers-requires
forward_numbers-requires g c = (c.args.m, few_stages c.args.m (length c.args.values.now) c.if-m-gt12.false c.if-values-m.false)
