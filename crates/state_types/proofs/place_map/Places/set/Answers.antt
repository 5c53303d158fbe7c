use Rattle.state_types.proofs.PlaceWrites.{PlacesRise-set, type-after}
use Rattle.state_types.proofs.place_map.Places.set.Goals as goal

pub invariant_of-self : goal.invariant_of-self
invariant_of-self c =
    PlacesRise-set c.args.place c.args.ty c.self.inside.entries.items c.set_among.new.entries.items c.set_among.result c.set_among.ensures.set c.set_among.ensures.unchanged c.self.invariant

pub returns-clause-found : goal.returns-clause-found
returns-clause-found c =
    type-after c.args.place c.args.ty c.self.inside.entries.items c.args.self.now c.set_among.new.entries.items c.set_among.result c.self.view_is c.set_among.ensures.set
