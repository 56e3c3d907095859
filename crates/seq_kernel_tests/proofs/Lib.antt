mod CallMachines
