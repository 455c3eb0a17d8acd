mod Events
