-- A bus and the packet links over it.
use Rattle.stack.specs.declared.Links.{Links}
use Rattle.stack.specs.declared.Links.TheVariants.{None, One, Two}
use Rattle.stack.specs.declared.Stack.{Stack}
use Rattle.stack.specs.declared.Stack.TheVariants.{Direct, Linked, Twice}

-- links laid over a bus; in clauses a link is the bus below it
abbrev pub stacked : {B : Type 0} → Links → B → Stack B
stacked None bus = Direct bus
stacked One bus = Linked bus
stacked Two bus = Twice bus

-- how many there are
abbrev pub links_of : {B : Type 0} → Stack B → Links
links_of (Direct bus) = None
links_of (Linked link) = One
links_of (Twice link) = Two

-- the bus below them
abbrev pub bottom : {B : Type 0} → Stack B → B
bottom (Direct bus) = bus
bottom (Linked link) = link
bottom (Twice link) = link
